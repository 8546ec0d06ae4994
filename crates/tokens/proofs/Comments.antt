-- Comments and real numbers, byte by byte.
use mathlib.Core.Logic.{◌⊎◌, inl, inr}
use mathlib.Core.Path.{◌≡◌, refl, sym, ap}
use mathlib.Core.Bool.{Bool, true, false, ◌&&◌, ◌||◌}
use mathlib.Core.Option.{Option as Maybe, none, some}
use mathlib.Core.List.{List}
use Prim.Native.Nat.{ℕ, suc, ◌+◌, ◌≤◌, ◌<◌}
use native.Mathlib.Omega.{arith}
use native.Mathlib.Numerals.{add-one}
use lib.ListN.{length, get_or, drop, drop_of_length-le}
use lib.Seq.{drop-cons}
use lib.Dec.{eqb, leb}
use borrow.Author.Tests.{eq-eqb, ne_eqb, eqb-true, eqb-false, leb-true, le-leb, lt-leb}
use Rattle.meaning.specs.Goodness.{span}
use Rattle.meaning.proofs.Truth.{is_true, is_false, see, and_false}
use Rattle.text.specs.Classes.{class_of, of}
use Rattle.text.specs.Tokens.{commented, further, real}
use Rattle.classes.specs.Table.{number_of}
use Rattle.classes.specs.declared.Class.{Class}
use Rattle.classes.specs.declared.Class.TheVariants.{Capital, Small, Typed, Digit}
use Rattle.classes.proofs.Order.{no_letter, no_one}
use Rattle.tokens.specs.Lexemes.{past_at}
use Rattle.std.specs.Prelude.{Option, Some, None}

past-further : (i : ℕ) (o : Maybe ℕ) → past_at i (further o) ≡ past_at (suc i) o
unfolding further
past-further i none = refl
past-further i (some n) = ap Some (let e : i + suc n ≡ suc i + n = omega arith in e)

-- the comment's end, seen from i on; h: the byte before was a star
abbrev pub Past : List ℕ → Bool → ℕ → Option ℕ
Past s h i = past_at i (commented h (drop i s))

module _ (s : List ℕ) (i : ℕ) (h : Bool) (l : i < length s) where
  past_on : (h && eqb (get_or s i 0) 47) ≡ false → Past s (eqb (get_or s i 0) 42) (i + 1) ≡ Past s h i
  unfolding commented
  past_on e = sym (rw (drop-cons s i 0 l, e, commented, add-one i) (past-further i (commented (eqb (get_or s i 0) 42) (drop (suc i) s))))

  pub past-free : h ≡ false → Past s (eqb (get_or s i 0) 42) (i + 1) ≡ Past s h i
  past-free e = past_on (rw e)

  pub past_other : (get_or s i 0 ≡ 47 → ⊥) → Past s (eqb (get_or s i 0) 42) (i + 1) ≡ Past s h i
  past_other n = past_on (rw (ne_eqb _ 47 n) (and_false h))

  pub past_end : h ≡ true → get_or s i 0 ≡ 47 → Some (i + 1) ≡ Past s h i
  unfolding commented
  past_end t e = rw (drop-cons s i 0 l, t, eq-eqb _ 47 e, commented)

pub past_out : (s : List ℕ) (h : Bool) (i : ℕ) → length s ≤ i → None ≡ Past s h i
unfolding commented
past_out s h i l = rw (drop_of_length-le s l)

-- a test of one class
pub one_class : (c k : ℕ) → eqb k c ≡ span c c k
unfolding span
one_class c k =
    elim (see (eqb k c)) [
      | is_true a ↦ (let b : k ≡ c = eqb-true k c a in rw (a, b, leb_refl c))
      | is_false a ↦
          elim (see (leb c k)) [
            | is_true b ↦ rw (a, b) (sym (lt-leb k c (let n : k ≡ c → ⊥ = eqb-false k c a in omega (arith, leb-true c k b))))
            | is_false b ↦ rw (a, b)
          ]
    ]
  where
    leb_refl : (c : ℕ) → leb c c ≡ true
    leb_refl c = le-leb c c (omega arith)

-- real numbers
module _ (s : List ℕ) (i : ℕ) where
  pub real_out : length s ≤ i → false ≡ real (drop i s)
  unfolding real
  real_out l = rw (drop_of_length-le s l)

  pub real_last : i < length s → length s ≤ i + 1 → false ≡ real (drop i s)
  unfolding real
  real_last l h = rw (drop-cons s i 0 l, ← add-one i, drop_of_length-le s h)

  module _ (l : i + 1 < length s) where
    real_at : real (drop i s) ≡ ((eqb (get_or s i 0) 46 || eqb (get_or s i 0) 69) && of 6 6 (get_or s (i + 1) 0))
    unfolding real
    real_at = rw (drop-cons s i 0 (omega arith), ← add-one i, drop-cons s (i + 1) 0 l)

    pub real_no : ((get_or s i 0 ≡ 46) ⊎ (get_or s i 0 ≡ 69) → ⊥) → false ≡ real (drop i s)
    real_no n = sym (rw (real_at, ne_eqb _ 46 (λ e. n (inl e)), ne_eqb _ 69 (λ e. n (inr e))))

    pub real_mark : (get_or s i 0 ≡ 46) ⊎ (get_or s i 0 ≡ 69) → (k : ℕ) → k ≡ class_of (get_or s (i + 1) 0) → eqb k 6 ≡ real (drop i s)
    unfolding of
    real_mark (inl a) k c = rw (real_at, eq-eqb _ 46 a, ← c) (one_class 6 k)
    real_mark (inr a) k c = rw (real_at, a, ← c) (one_class 6 k)

-- tests of classes
pub letter_yes : (k : Class) → (k ≡ Capital) ⊎ ((k ≡ Small) ⊎ (k ≡ Typed)) → true ≡ span 3 5 (number_of k)
unfolding span
letter_yes k (inl e) = rw e
letter_yes k (inr (inl e)) = rw e
letter_yes k (inr (inr e)) = rw e

pub letter_no : (k : Class) → (k ≡ Capital → ⊥) → (k ≡ Small → ⊥) → (k ≡ Typed → ⊥) → false ≡ span 3 5 (number_of k)
letter_no k a b c = sym (no_letter k a b c)

pub index_yes : (k : Class) → (k ≡ Capital) ⊎ (k ≡ Digit) → true ≡ (span 3 3 (number_of k) || span 6 6 (number_of k))
unfolding span
index_yes k (inl e) = rw e
index_yes k (inr e) = rw e

pub index_no : (k : Class) → (k ≡ Capital → ⊥) → (k ≡ Digit → ⊥) → false ≡ (span 3 3 (number_of k) || span 6 6 (number_of k))
index_no k a b = rw (no_one k Capital a, no_one k Digit b)
