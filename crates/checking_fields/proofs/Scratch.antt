-- The scratch: what the check of a field leaves of it.
use mathlib.Core.Path.{◌≡◌, refl, ◌∙◌}
use mathlib.Core.List.{List, ◌++◌, append-nil}
use Prim.Native.Nat.{ℕ, ◌-◌, ◌≤◌, ◌<◌}
use native.Mathlib.Omega.{arith}
use lib.ListN.{length, replicate, take, drop, drop_of_length-le}
use borrow.Author.Tests.{lt-ltb, le-ltb}
use Rattle.meaning.specs.Goodness.{bad_field}
use Rattle.std.specs.Prelude.{Result, Err}
use Rattle.checking_fields.specs.declared.FieldFault.{FieldFault}
use Rattle.checking_fields.specs.declared.FieldFault.TheVariants.{Short}
use Rattle.checking_fields.specs.Answers.{check_of, field_check, scratch_after}

-- the answer, and the scratch afterwards
module _ (f old : List ℕ) where
  abbrev Answers : Result Unit FieldFault → List ℕ → Type 0
  Answers r now = (r ≡ field_check f old) × (now ≡ scratch_after f old)

  pub too_short : length old < length f → Answers (Err Short) old
  unfolding field_check scratch_after
  too_short h = rw (lt-ltb (length old) (length f) h) (refl, refl)

  -- used keeps the length, and is cleared from end to end
  pub checked : {r : Result Unit FieldFault} (used : List ℕ) {now : List ℕ} → length f ≤ length old → r ≡ check_of (bad_field f) → length used ≡ length old
      → now ≡ take 0 used ++ replicate (length used - 0) 0 ++ drop (length used) used → Answers r now
  unfolding field_check scratch_after
  checked used h e l z =
      let n : length used - 0 ≡ length old = omega arith in
      rw (le-ltb (length old) (length f) h) (e, z ∙ rw (drop_of_length-le used {i = length used} (omega arith), n) (append-nil (replicate (length old) 0)))
