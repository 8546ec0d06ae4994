-- A name, byte by byte, in its one spelling.
use mathlib.Core.Path.{◌≡◌, refl, ◌∙◌}
use mathlib.Core.Bool.{Bool, true, false, cond, false≢true}
use mathlib.Core.List.{List, [], ◌∷◌}
use Prim.Native.Nat.{ℕ, zero, suc, ◌+◌, ◌≤◌, ◌<◌}
use native.Mathlib.Omega.{arith}
use native.Mathlib.Numerals.{add-one}
use lib.ListN.{length, get_or, drop, get_or-eq_default}
use lib.Seq.{drop-cons}
use lib.Dec.{eqb, leb}
use borrow.Author.Tests.{eq-eqb, ne_eqb, leb-true, leb-false}
use Rattle.meaning.specs.Goodness.{span}
use Rattle.meaning.specs.Elements.{same}
use Rattle.meaning.proofs.Truth.{is_true, is_false, see}
use Rattle.text.specs.Classes.{class_of, of, is_capital, in_name, spell}
use Rattle.text.specs.Tokens.{tail_of, spelled}
use Rattle.classes.specs.Table.{spelling}
use Rattle.classes.proofs.Runs.{run_yes, run_no, run_past}
use Rattle.names.specs.Names.{key_at}
use Rattle.names.specs.Index.{mixed, hash_from, bucket}

-- a byte of a name is spelt by a byte that is not 0
positive : (a c : Bool) (b : ℕ) → 0 < cond a (suc b + 32) (cond c 45 (suc b))
positive true c b = omega arith
positive false true b = omega arith
positive false false b = omega arith

spell_some : (b : ℕ) → in_name b ≡ true → 0 < spell b
unfolding of span class_of
spell_some zero h = absurd (false≢true h)
spell_some (suc b) h = positive (is_capital (suc b)) (eqb (suc b) 95) b

-- what the spelling at a place tells of the name's rest
pub data Tail (s : List ℕ) (i : ℕ) : ℕ → Type 0 where
  over : tail_of (drop i s) ≡ [] → Tail s i 0
  more : {x : ℕ} → 0 < x → tail_of (drop i s) ≡ x ∷ tail_of (drop (i + 1) s) → Tail s i x

module _ (s : List ℕ) (i : ℕ) where
  tail_in : i < length s → Tail s i (spelling (get_or s i 0))
  unfolding spelling tail_of
  tail_in l =
      elim (see (in_name (get_or s i 0))) [
        | is_true h ↦ rw h (more (spell_some _ h) (rw (run_yes in_name s i l h)))
        | is_false h ↦ rw h (over (rw (run_no in_name s i l h)))
      ]

  pub tail_past : length s ≤ i → tail_of (drop i s) ≡ []
  unfolding tail_of
  tail_past l = rw (run_past in_name s i l)

  pub spelled_out : length s ≤ i → 0 ≡ spelling (get_or s i 0)
  unfolding spelling of span class_of
  spelled_out l = rw (get_or-eq_default s 0 l)

  tail_at : Tail s i (spelling (get_or s i 0))
  tail_at =
      elim (see (leb (suc i) (length s))) [
        | is_true h ↦ tail_in (leb-true _ _ h)
        | is_false h ↦ (let l : length s ≤ i = omega (arith, leb-false (suc i) (length s) h) in rw (← spelled_out l) (over (tail_past l)))
      ]

  -- the same of a number that is that spelling
  pub tail_of_lem : {x : ℕ} → x ≡ spelling (get_or s i 0) → Tail s i x
  tail_of_lem e = rw e tail_at

-- the rests of two names
pub alike : List ℕ → ℕ → ℕ → Bool
alike s i j = same (tail_of (drop i s)) (tail_of (drop j s))

module _ (s : List ℕ) (i j : ℕ) where
  pub alike_no : {x y : ℕ} → Tail s i x → Tail s j y → (x ≡ y → ⊥) → false ≡ alike s i j
  unfolding alike same
  alike_no (over p) (over q) n = absurd (n refl)
  alike_no (over p) (more l q) n = rw (p, q)
  alike_no (more l p) (over q) n = rw (p, q)
  alike_no {x} {y} (more l p) (more m q) n = rw (p, q, ne_eqb x y n)

  pub alike_yes : {x y : ℕ} → Tail s i x → Tail s j y → x ≡ y → x ≡ 0 → true ≡ alike s i j
  unfolding alike same
  alike_yes (over p) (over q) e z = rw (p, q)
  alike_yes (over p) (more l q) e z = absurd (omega arith)
  alike_yes (more l p) q e z = absurd (omega arith)

  pub alike_on : {x y : ℕ} → Tail s i x → Tail s j y → x ≡ y → (x ≡ 0 → ⊥) → alike s (i + 1) (j + 1) ≡ alike s i j
  unfolding alike same
  alike_on (over p) q e z = absurd (z refl)
  alike_on (more l p) (over q) e z = absurd (omega arith)
  alike_on {x} {y} (more l p) (more m q) e z = rw (p, q, eq-eqb x y e)

  pub alike_out : {y : ℕ} → length s ≤ i → Tail s j y → eqb y 0 ≡ alike s i j
  unfolding alike same
  alike_out l (over q) = rw (tail_past s i l, q)
  alike_out {y} l (more m q) = rw (tail_past s i l, q, ne_eqb y 0 (λ z. omega arith))

pub key_is : (s : List ℕ) (a : ℕ) → a < length s → key_at s a ≡ get_or s a 0 ∷ tail_of (drop (a + 1) s)
unfolding key_at spelled
key_is s a l = rw (drop-cons s a 0 l, add-one)

module _ (s : List ℕ) (a b : ℕ) (la : a < length s) (lb : b < length s) where
  pub first_differs : (get_or s a 0 ≡ get_or s b 0 → ⊥) → false ≡ same (key_at s a) (key_at s b)
  unfolding same
  first_differs n = rw (key_is s a la, key_is s b lb, ne_eqb _ _ n)

  pub by_tails : {r : Bool} → get_or s a 0 ≡ get_or s b 0 → r ≡ alike s (a + 1) (b + 1) → r ≡ same (key_at s a) (key_at s b)
  unfolding same alike
  by_tails e h = h ∙ rw (key_is s a la, key_is s b lb, eq-eqb _ _ e)

-- the bucket, from what is mixed so far
pub hashed : List ℕ → ℕ → ℕ → ℕ
hashed s h i = hash_from h (tail_of (drop i s))

pub hash_start : (s : List ℕ) (a : ℕ) → a < length s → hashed s (get_or s a 0) (a + 1) ≡ bucket (key_at s a)
unfolding hashed bucket
hash_start s a l = rw (key_is s a l)

module _ (s : List ℕ) (h i : ℕ) where
  pub hash_end : {x : ℕ} → Tail s i x → x ≡ 0 → h ≡ hashed s h i
  unfolding hashed hash_from
  hash_end (over p) z = rw p
  hash_end (more l p) z = absurd (omega arith)

  pub hash_on : {x : ℕ} → Tail s i x → (x ≡ 0 → ⊥) → hashed s (mixed h x) (i + 1) ≡ hashed s h i
  unfolding hashed hash_from
  hash_on (over p) z = absurd (z refl)
  hash_on (more l p) z = rw p

  pub hash_out : length s ≤ i → h ≡ hashed s h i
  unfolding hashed hash_from
  hash_out l = rw (tail_past s i l)
