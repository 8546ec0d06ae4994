-- A run, as the code makes it.
use Rattle.std.specs.Prelude.{◌≡◌, true, List, [], ℕ, ◌-◌, ◌≤◌, length, take}
use Rattle.std.proofs.Math.Option.{none, some}
use Rattle.meaning.specs.Goodness.{bad_program, bad_field}
use Rattle.meaning.specs.Machine.{sizes, Result, result, run}
use Rattle.meaning.proofs.Programs.{Functions, Solid}
use Rattle.meaning.proofs.Balance.{brackets}
use Rattle.scanning.specs.State.{field_of, field_at, Good, Standing}
use Rattle.choosing.specs.Choose.{rest_of, Program}
use Rattle.running.specs.declared.End.{End}
use Rattle.running.specs.declared.End.TheVariants.{Done, Paused, NoMatch, NoFunction, NoRoom}

-- what the checks have found out
pub record Checked (p f : List ℕ) (used : ℕ) (s : List ℕ) : Type 0 where
  pub sizes_fit : sizes p f used s ≡ true
  pub program : bad_program p ≡ none
  pub field : bad_field (take used f) ≡ none

-- the same, as the steps need it
pub record Ready (p f : List ℕ) (used : ℕ) (s : List ℕ) : Type 0 where
  pub program : Program p
  pub functions : Functions (rest_of p 0)
  pub fits : used ≤ length f
  pub solid : Solid (field_of f used)
  pub balanced : brackets [] (field_of f used) ≡ some []
  pub program_short : length p ≤ 65536
  pub field_short : length f ≤ 65536
  pub scratch_long : length f ≤ length s

-- the paper's number of each end
abbrev pub number_of : End → ℕ
number_of Done = 0
number_of Paused = 1
number_of NoMatch = 2
number_of NoFunction = 3
number_of NoRoom = 4

-- a run that has come to a halt
pub record Halted (whole : Result) (f' : List ℕ) (e : End) (steps place lo hi : ℕ) : Type 0 where
  pub gap : lo ≤ hi
  pub fits : hi ≤ length f'
  pub so : whole ≡ result (number_of e) steps place (field_at f' lo hi)

-- a run between two steps
pub record Between (p : List ℕ) (room budget : ℕ) (whole : Result) (f calls : List ℕ) (lo hi read depth top steps : ℕ) : Type 0 where
  pub good : Good f lo hi
  pub standing : Standing f lo hi read depth top calls
  pub long : length f ≡ room
  pub left : steps ≤ budget
  pub so : whole ≡ run (rest_of p 0) room (budget - steps) steps (field_at f lo hi)
