-- What the check of a field answers, and what is left of the scratch.
use Rattle.std.specs.Prelude.{cond, List, ℕ, length, replicate, ltb, Result, Ok, Err}
use Rattle.std.proofs.Math.Option.{Option, none, some}
use Rattle.meaning.specs.Goodness.{bad_field}
use Rattle.checking_fields.specs.declared.FieldFault.{FieldFault}
use Rattle.checking_fields.specs.declared.FieldFault.TheVariants.{Bad, Short}

abbrev pub check_of : Option ℕ → Result Unit FieldFault
check_of none = Ok tt
check_of (some i) = Err (Bad i)

-- a field needs a scratch as long as itself, which is all zero afterwards; a shorter one is not touched
unfoldable pub field_check : List ℕ → List ℕ → Result Unit FieldFault
field_check f scratch = cond (ltb (length scratch) (length f)) (Err Short) (check_of (bad_field f))

unfoldable pub scratch_after : List ℕ → List ℕ → List ℕ
scratch_after f scratch = cond (ltb (length scratch) (length f)) scratch (replicate (length scratch) 0)
