-- A sentence's variables: for each its kind, and the part of the text that is its index.
use Rattle.std.specs.Prelude.{◌≡◌, List, [], ◌∷◌, ℕ, zero, suc, ◌+◌, ◌≤◌, ◌<◌, length, get_or, set}
use Rattle.text.specs.Numbering.{Key, number_of, adding}
use Rattle.classes.specs.Table.{part}

-- entry j of the tables
abbrev pub key_of : List ℕ → List ℕ → List ℕ → List ℕ → ℕ → Key
key_of s kinds starts sizes j = get_or kinds j 0 ∷ part s (get_or starts j 0) (get_or sizes j 0)

-- n entries from j on
unfoldable pub keys_from : List ℕ → List ℕ → List ℕ → List ℕ → ℕ → ℕ → List Key
keys_from s kinds starts sizes j zero = []
keys_from s kinds starts sizes j (suc n) = key_of s kinds starts sizes j ∷ keys_from s kinds starts sizes (suc j) n

-- the first m entries
abbrev pub keys_of : List ℕ → List ℕ → List ℕ → List ℕ → ℕ → List Key
keys_of s kinds starts sizes m = keys_from s kinds starts sizes 0 m

-- they have room in the tables, and their parts lie inside the text
pub record Inside (s kinds starts sizes : List ℕ) (m : ℕ) : Type 0 where
  pub room : (m ≤ length kinds) × (m ≤ length starts) × (m ≤ length sizes)
  pub each : (j : ℕ) → j < m → get_or starts j 0 + get_or sizes j 0 ≤ length s

-- the tables with one entry more
pub record Added (m kind start size : ℕ) (kinds starts sizes kinds' starts' sizes' : List ℕ) : Type 0 where
  pub its_kind : kinds' ≡ set kinds m kind
  pub its_start : starts' ≡ set starts m start
  pub its_size : sizes' ≡ set sizes m size

-- the variable with the key x has the number r, and is in the tables, at the end if it is new; then they are m'
pub record Numbered (s kinds starts sizes : List ℕ) (m : ℕ) (x : Key) (kinds' starts' sizes' : List ℕ) (r m' : ℕ) : Type 0 where
  pub number : r ≡ number_of x (keys_of s kinds starts sizes m)
  pub keys : keys_of s kinds' starts' sizes' m' ≡ adding x (keys_of s kinds starts sizes m)
  pub inside : Inside s kinds' starts' sizes' m'
  pub least : m ≤ m'
  pub most : m' ≤ m + 1
  pub long : (length kinds' ≡ length kinds) × (length starts' ≡ length starts) × (length sizes' ≡ length sizes)
