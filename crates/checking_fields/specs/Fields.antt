-- What is left to find in a field, and what one element does there.
use Rattle.std.specs.Prelude.{◌≡◌, List, [], ℕ, ◌+◌, ◌-◌, ◌≤◌, drop, Option as Maybe, Some, None}
use Rattle.std.proofs.Math.Option.{Option}
use Rattle.meaning.specs.Elements.{elements}
use Rattle.meaning.specs.Goodness.{field, State, at, top, fault, opens_after, first_bad}
use Rattle.elements.specs.declared.Element.{Element}
use Rattle.elements.specs.Bytes.{kind_of, bytes_of}
use Rattle.kinds.specs.Stacks.{stack}

-- in a field with these brackets open; how many elements came before does not matter there
abbrev pub within : List ℕ → State
within opens = at field opens 0 []

-- the first bad element from i on
unfoldable pub bad_from : List ℕ → List ℕ → ℕ → Option ℕ
bad_from f opens i = first_bad (within opens) i (elements (drop i f))

-- the latest of d open brackets is closed, if it is of the kind `opening`
pub data Closed (st : List ℕ) (d opening : ℕ) : Maybe ℕ → Type 0 where
  closes : top (stack d st) ≡ opening → Closed st d opening (Some (d - 1))
  stays : (top (stack d st) ≡ opening → ⊥) → Closed st d opening None

-- what x leads to where d brackets are open: it is good, and others are open behind it; or it is bad
pub data Turned (x : Element) (st : List ℕ) (d : ℕ) : Maybe ℕ → List ℕ → Type 0 where
  good : {e : ℕ} {new : List ℕ} → fault (within (stack d st)) (bytes_of x) ≡ 0 → stack e new ≡ opens_after (kind_of x) (stack d st) → e ≤ d + 1 → Turned x st d (Some e) new
  bad : (fault (within (stack d st)) (bytes_of x) ≡ 0 → ⊥) → Turned x st d None st
