-- The codes and their numbers.
use Rattle.std.specs.Prelude.{◌≡◌, true, List, ℕ}
use Rattle.std.proofs.Math.Option.{none}
use Rattle.meaning.specs.Goodness.{bad_program}
use Rattle.meaning.specs.Machine.{sizes}
use Rattle.machine.specs.declared.Code.{Code}
use Rattle.machine.specs.declared.Code.TheVariants.{Done, Paused, NoMatch, NoFunction, NoRoom, BadSizes, BadProgram, BadField}

-- the paper's number of each code
abbrev pub code_of : Code → ℕ
code_of Done = 0
code_of Paused = 1
code_of NoMatch = 2
code_of NoFunction = 3
code_of NoRoom = 4
code_of BadSizes = 5
code_of BadProgram = 6
code_of BadField = 7

-- what the checks of the sizes and of the program have found out
pub record Sized (p f : List ℕ) (used : ℕ) (s : List ℕ) : Type 0 where
  pub sizes_fit : sizes p f used s ≡ true
  pub program : bad_program p ≡ none
