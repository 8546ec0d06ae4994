-- What is asked of matching: the first assignment that fits, in the code's table.
use Rattle.std.specs.Prelude.{◌≡◌, Bool, true, false, List, [], ◌∷◌, ℕ, length}
use Rattle.std.proofs.Math.Option.{Option, none, some}
use Rattle.meaning.specs.Elements.{elements, among}
use Rattle.meaning.specs.Matching.{Env, free, seek}
use Rattle.kinds.specs.Slots.{slot_of, value_of}
use Rattle.elements.specs.Reading.{Balanced}
use Rattle.settling.specs.Values.{env_of, Variable, LeftSide, Held, Table, Kept}

-- what the search gives, in the table
pub data Outcome (arg b : List ℕ) (m : ℕ) (b' : List ℕ) (o : Option Env) : Bool → Type 0 where
  lost : o ≡ none → Kept m b b' → Outcome arg b m b' o false
  won : (m' : ℕ) → o ≡ some (env_of arg b' m') → Table arg b' m' → Outcome arg b m b' o true

-- a whole left side and a whole argument
pub record Starting (left arg b : List ℕ) : Type 0 where
  pub left_side : LeftSide 0 (elements left)
  pub argument : Balanced 0 (elements arg)
  pub long : length b ≡ 96

-- the value of a variable after a search
pub record Bound (arg b : List ℕ) (env : Env) (k n : ℕ) : Type 0 where
  pub held : Held arg b k n
  pub is : env (k ∷ n ∷ []) ≡ some (elements (value_of arg b (slot_of k n)))

-- matching answers what the search gives, with the value of every variable of the left side
pub data Matched (l : List (List ℕ)) (arg b : List ℕ) : Bool → Type 0 where
  no_fit : seek l (elements arg) free ≡ none → Matched l arg b false
  first_fit : (env : Env) → seek l (elements arg) free ≡ some env → ((k n : ℕ) → Variable k n → among (k ∷ n ∷ []) l ≡ true → Bound arg b env k n) → Matched l arg b true
