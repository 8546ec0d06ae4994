-- A sentence has few variables: 16 of each kind.
use Rattle.std.specs.Prelude.{◌≡◌, cond, List, [], ◌∷◌, ℕ, ◌+◌, ◌≤◌, length, eqb}
use Rattle.meaning.specs.Elements.{kind}
use Rattle.text.specs.Numbering.{Key}

-- how many keys have the kind k
unfoldable pub count_of : ℕ → List Key → ℕ
count_of k [] = 0
count_of k (v ∷ vs) = cond (eqb k (kind v)) 1 0 + count_of k vs

pub record Few (vs : List Key) : Type 0 where
  -- every key's kind is 8, 9 or 10: these three make up the length
  pub typed : count_of 8 vs + count_of 9 vs + count_of 10 vs ≡ length vs
  pub each : (k : ℕ) → count_of k vs ≤ 16
