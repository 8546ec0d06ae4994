-- What the check of a field promises leaves no second answer, and no second scratch.
use mathlib.Core.Path.{◌≡◌, sym, ◌∙◌}
use mathlib.Core.List.{List}
use Prim.Native.Nat.{ℕ}
use Rattle.checking_fields.specs.Answers.{field_check, scratch_after}
use Rattle.std.specs.Prelude.{Result}
use Rattle.checking_fields.specs.declared.FieldFault.{FieldFault}

pub only_field : (f s : List ℕ) {r r' : Result Unit FieldFault} {t t' : List ℕ} → (r ≡ field_check f s) × (t ≡ scratch_after f s) → (r' ≡ field_check f s) × (t' ≡ scratch_after f s) → (r ≡ r') × (t ≡ t')
only_field f s h h' = (h.0 ∙ sym h'.0, h.1 ∙ sym h'.1)
