-- What is passed of a program, and what is found from there on.
use Rattle.std.specs.Prelude.{◌≡◌, true, List, ℕ, ◌≤◌, ◌<◌, length, drop, Option as Maybe, Some, None, Ok}
use Rattle.std.proofs.Math.Option.{Option}
use Rattle.meaning.specs.Elements.{elements}
use Rattle.meaning.specs.Goodness.{State as Stage, span, under_limit, first_bad}
use Rattle.taking.specs.declared.State.{State}
use Rattle.taking.specs.Standing.{part_of, Means, Steps}

-- a side of a sentence, and it may have an element more
abbrev pub HasRoom : State → Type 0
HasRoom q = (span 3 4 q.part ≡ true) × (under_limit (part_of q.part) q.count ≡ true)

-- a step of the check was made within the part, or nothing was done
pub data Tried (q : State) (k v : ℕ) (st : List ℕ) : Maybe State → List ℕ → Type 0 where
  passes : {q' : State} {st' : List ℕ} → Steps q k v st (Ok q') st' → q'.part ≡ q.part → Tried q k v st (Some q') st'
  leaves : Tried q k v st None st

-- i bytes of a program have been read, and the state q stands for where reading is; the first bad element is found from there on
pub record Reading (found : Option ℕ) (bs : List ℕ) (i : ℕ) (q : State) (st : List ℕ) : Type 0 where
  pub stage : Stage
  pub means : Means q st stage
  pub program : 0 < q.part
  pub room : 400 ≤ length st
  pub inside : i ≤ length bs
  pub same : found ≡ first_bad stage i (elements (drop i bs))

-- what is found from i on, in the state q, is found from j on, in the state q'
abbrev pub Onward : List ℕ → ℕ → State → List ℕ → ℕ → State → List ℕ → Type 0
Onward bs i q st j q' st' = (found : Option ℕ) → Reading found bs i q st → Reading found bs j q' st'
