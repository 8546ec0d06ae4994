-- What the check of a program promises leaves no second answer.
use mathlib.Core.Path.{◌≡◌, sym, ◌∙◌}
use mathlib.Core.List.{List}
use Prim.Native.Nat.{ℕ}
use Rattle.std.specs.Prelude.{Result}
use Rattle.meaning.specs.Goodness.{bad_program}
use Rattle.checking.specs.Answers.{check_of}

pub only_program : (p : List ℕ) {r r' : Result Unit ℕ} → r ≡ check_of (bad_program p) → r' ≡ check_of (bad_program p) → r ≡ r'
only_program p h h' = h ∙ sym h'
