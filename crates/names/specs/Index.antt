-- An index over the first n names of a text: a bucket for each spelling, and in each bucket the names from the latest back.
use Rattle.std.specs.Prelude.{◌≡◌, cond, List, [], ◌∷◌, ℕ, suc, ◌+◌, ◌*◌, ◌%◌, ◌≤◌, ◌<◌, length, get_or, set, eqb}
use Rattle.text.specs.Numbering.{name_key, adding}
use Rattle.names.specs.Names.{key_at, name_at, named, number_at}

-- any rule would do: what is found does not depend on it
abbrev pub mixed : ℕ → ℕ → ℕ
mixed h x = (h * 31 + x) % 8192

unfoldable pub hash_from : ℕ → List ℕ → ℕ
hash_from h [] = h
hash_from h (x ∷ xs) = hash_from (mixed h x) xs

unfoldable pub bucket : List ℕ → ℕ
bucket [] = 0
bucket (b ∷ x) = hash_from b x

-- n names begin inside the text, and each fits a record
pub record Places (s firsts : List ℕ) (n : ℕ) : Type 0 where
  pub room : n ≤ length firsts
  pub inside : (k : ℕ) → k < n → get_or firsts k 0 < length s
  pub short : (k : ℕ) → k < n → length (name_at s firsts k) ≤ 15

-- they are all different. Each bucket's head, and each name's link, is one more than the number of the latest name (before this one)
-- in the bucket, or 0 if there is none
pub record Index (s firsts heads links : List ℕ) (n : ℕ) : Type 0 where
  pub places : Places s firsts n
  pub wide : 8192 ≤ length heads
  pub room : n ≤ length links
  pub apart : (j k : ℕ) → j < k → k < n → name_at s firsts k ≡ name_at s firsts j → ⊥
  pub head_in : (b : ℕ) → get_or heads b 0 ≤ n
  pub head_own : (b k : ℕ) → get_or heads b 0 ≡ suc k → bucket (name_at s firsts k) ≡ b
  pub head_all : (k : ℕ) → k < n → k < get_or heads (bucket (name_at s firsts k)) 0
  pub link_in : (k : ℕ) → k < n → get_or links k 0 ≤ k
  pub link_own : (j k : ℕ) → k < n → get_or links k 0 ≡ suc j → bucket (name_at s firsts j) ≡ bucket (name_at s firsts k)
  pub link_all : (j k : ℕ) → j < k → k < n → bucket (name_at s firsts j) ≡ bucket (name_at s firsts k) → j < get_or links k 0

-- the tables with the name that begins at `at`, of bucket b, as number n
pub record Added (n at b : ℕ) (firsts heads links firsts' heads' links' : List ℕ) : Type 0 where
  pub first : firsts' ≡ set firsts n at
  pub head : heads' ≡ set heads b (n + 1)
  pub link : links' ≡ set links n (get_or heads b 0)

-- the names are one more where the number was new
abbrev pub count_after : ℕ → ℕ → ℕ
count_after n r = cond (eqb r n) (n + 1) n

-- the name that begins at `at` has number r, and is in the index, at the end if it is new
pub record Numbered (s firsts heads links : List ℕ) (n at : ℕ) (firsts' heads' links' : List ℕ) (r : ℕ) : Type 0 where
  pub number : r ≡ number_at s firsts n at
  pub most : r ≤ n
  pub long : (length firsts' ≡ length firsts) × (length heads' ≡ length heads) × (length links' ≡ length links)
  pub index : Index s firsts' heads' links' (count_after n r)
  pub list : named s firsts' (count_after n r) ≡ adding (name_key (key_at s at)) (named s firsts n)
