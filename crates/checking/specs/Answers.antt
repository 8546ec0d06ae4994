-- What the check of a program answers.
use Rattle.std.proofs.Math.Option.{Option, none, some}
use Rattle.std.specs.Prelude.{ℕ, Result, Ok, Err}

abbrev pub check_of : Option ℕ → Result Unit ℕ
check_of none = Ok tt
check_of (some i) = Err i
