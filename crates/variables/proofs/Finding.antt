-- A search among the variables of a sentence, and one more of them.
use mathlib.Core.Path.{◌≡◌, refl, sym, ◌∙◌, ap}
use mathlib.Core.Bool.{Bool, true, false}
use mathlib.Core.List.{List, [], ◌∷◌, ◌++◌}
use Prim.Native.Nat.{ℕ, zero, suc, ◌+◌, ◌-◌, ◌≤◌, ◌<◌}
use native.Mathlib.Omega.{arith}
use native.Mathlib.Numerals.{add-one}
use lib.ListN.{length, get_or, set, length-set}
use lib.Seq.{get_or-set_same, get_or-set_other}
use lib.Dec.{eqb}
use borrow.Author.Count.{below_more}
use borrow.Author.Tests.{eq-eqb, ne_eqb}
use Rattle.meaning.specs.Elements.{same, kind}
use Rattle.meaning.proofs.Truth.{is_true, is_false, see}
use Rattle.text.specs.Numbering.{Key, number_of, has}
use Rattle.text.proofs.Names.{adding-known, adding_new}
use Rattle.classes.specs.Table.{part}
use Rattle.std.specs.Prelude.{Result, Ok, Err}
use Rattle.variables.specs.Variables.{key_of, keys_from, keys_of, Inside, Added, Numbered}
use Rattle.variables.specs.Tables.{Found}

-- among keys whose first one is the one looked for, has another kind, or has its kind and is another
module _ (x y : Key) (ys : List Key) where
  number_this : same x y ≡ true → (number_of x (y ∷ ys) ≡ 0) × (has x (y ∷ ys) ≡ true)
  unfolding number_of has
  number_this h = (rw (h, number_of), rw h)

  number-kind : same x y ≡ false → eqb (kind x) (kind y) ≡ false → (number_of x (y ∷ ys) ≡ number_of x ys) × (has x (y ∷ ys) ≡ has x ys)
  unfolding number_of has
  number-kind h e = (rw (h, number_of, e), rw h)

  number_other : same x y ≡ false → eqb (kind x) (kind y) ≡ true → (number_of x (y ∷ ys) ≡ suc (number_of x ys)) × (has x (y ∷ ys) ≡ has x ys)
  unfolding number_of has
  number_other h e = (rw (h, number_of, e), rw h)

-- among m variables x is looked for: j were passed, n of them of its kind, and the rest is still to be looked at
pub record Seeks (s kinds starts sizes : List ℕ) (m : ℕ) (x : Key) (j n : ℕ) : Type 0 where
  pub number : n + number_of x (keys_from s kinds starts sizes j (m - j)) ≡ number_of x (keys_of s kinds starts sizes m)
  pub known : has x (keys_from s kinds starts sizes j (m - j)) ≡ has x (keys_of s kinds starts sizes m)
  pub passed : n ≤ j

pub seeks_first : (s kinds starts sizes : List ℕ) (m : ℕ) (x : Key) → Seeks s kinds starts sizes m x 0 0
seeks_first s kinds starts sizes m x =
    let e : m - 0 ≡ m = omega arith in
    record { number = rw e (omega arith); known = rw e; passed = omega arith }

module _ {s kinds starts sizes : List ℕ} {m j n k : ℕ} {x : List ℕ} (h : Seeks s kinds starts sizes m (k ∷ x) j n) where
  abbrev key : Key
  key = key_of s kinds starts sizes j

  abbrev rest : List Key
  rest = keys_from s kinds starts sizes (j + 1) (m - (j + 1))

  rest_is : j < m → keys_from s kinds starts sizes j (m - j) ≡ key ∷ rest
  unfolding keys_from
  rest_is l = let e : m - j ≡ suc (m - (j + 1)) = omega arith in rw (e, keys_from, add-one j)

  pub other_kind : j < m → (get_or kinds j 0 ≡ k → ⊥) → Seeks s kinds starts sizes m (k ∷ x) (j + 1) n
  unfolding same
  other_kind l d =
      let e : eqb k (get_or kinds j 0) ≡ false = ne_eqb k (get_or kinds j 0) (λ z. d (sym z)) in
      let (a, b) = number-kind (k ∷ x) key rest (rw e) e in
      record { number = rw (rest_is l, a) at h.number; known = rw (rest_is l, b) at h.known; passed = omega arith }

  module _ (l : j < m) (t : get_or kinds j 0 ≡ k) {b : Bool} (z : b ≡ same x (part s (get_or starts j 0) (get_or sizes j 0))) where
    same_is : same (k ∷ x) key ≡ b
    unfolding same
    same_is = rw (eq-eqb k (get_or kinds j 0) (sym t)) (sym z)

    pub other_index : b ≡ false → Seeks s kinds starts sizes m (k ∷ x) (j + 1) (n + 1)
    other_index d =
        let (a, c) = number_other (k ∷ x) key rest (same_is ∙ d) (eq-eqb k (get_or kinds j 0) (sym t)) in
        let q = rw (rest_is l, a) at h.number in
        record { number = omega arith; known = rw (rest_is l, c) at h.known; passed = omega arith }

    pub this_one : b ≡ true → Found (k ∷ x) (keys_of s kinds starts sizes m) (Ok n)
    this_one d =
        let (a, c) = number_this (k ∷ x) key rest (same_is ∙ d) in
        let q = rw (rest_is l, a) at h.number in
        record { is = rw (← h.known, rest_is l, c) (ap {B = Result ℕ ℕ} (λ i. Ok i) (omega arith)) }

  pub none_is : m ≤ j → Found (k ∷ x) (keys_of s kinds starts sizes m) (Err n)
  unfolding keys_from number_of has
  none_is l =
      let e : m - j ≡ 0 = omega arith in
      let q : n + 0 ≡ number_of (k ∷ x) (keys_of s kinds starts sizes m) = rw (e, keys_from) at h.number in
      record { is = rw (← h.known, e, keys_from) (ap {B = Result ℕ ℕ} (λ i. Err i) (omega arith)) }

-- the variable of kind k, whose index is n bytes from a on, as entry m
module _ {s kinds starts sizes : List ℕ} {m : ℕ} (old : Inside s kinds starts sizes m) (k a n : ℕ)
    (room : (m < length kinds) × (m < length starts) × (m < length sizes)) where
  abbrev key_of_lem : ℕ → Key
  key_of_lem j = key_of s (set kinds m k) (set starts m a) (set sizes m n) j

  old_key : (j : ℕ) → j < m → key_of_lem j ≡ key_of s kinds starts sizes j
  old_key j l =
      let d : j ≡ m → ⊥ = λ e. omega arith in
      rw (get_or-set_other kinds m j k 0 d, get_or-set_other starts m j a 0 d, get_or-set_other sizes m j n 0 d)

  new_key : key_of_lem m ≡ k ∷ part s a n
  new_key = rw (get_or-set_same kinds m k 0 room.0, get_or-set_same starts m a 0 room.1, get_or-set_same sizes m n 0 room.2)

  keys_more : (j d : ℕ) → j + d ≡ m
      → keys_from s (set kinds m k) (set starts m a) (set sizes m n) j (suc d) ≡ keys_from s kinds starts sizes j d ++ ((k ∷ part s a n) ∷ [])
  unfolding keys_from
  keys_more j zero e = let f : j ≡ m = omega arith in rw f (rw new_key)
  keys_more j (suc d) e = rw (old_key j (omega arith), keys_more (suc j) d (omega arith))

  inside_more : a + n ≤ length s → Inside s (set kinds m k) (set starts m a) (set sizes m n) (m + 1)
  inside_more l =
      record {
        room = (
          rw (length-set kinds m k) (omega arith),
          rw (length-set starts m a) (omega arith),
          rw (length-set sizes m n) (omega arith),
        );
        each =
            below_more (λ j. get_or (set starts m a) j 0 + get_or (set sizes m n) j 0 ≤ length s) m
            (λ j i.
            let d : j ≡ m → ⊥ = λ e. omega arith in
            rw (get_or-set_other starts m j a 0 d, get_or-set_other sizes m j n 0 d) (old.each j i))
            (rw (get_or-set_same starts m a 0 room.1, get_or-set_same sizes m n 0 room.2) l);
      }

-- the tables after a variable was looked for, and added where it was new
module _ {s kinds starts sizes : List ℕ} {m : ℕ} (old : Inside s kinds starts sizes m) (k a n r : ℕ) where
  pub numbered_old : Found (k ∷ part s a n) (keys_of s kinds starts sizes m) (Ok r) → Numbered s kinds starts sizes m (k ∷ part s a n) kinds starts sizes r m
  numbered_old found =
      elim (see (has (k ∷ part s a n) (keys_of s kinds starts sizes m))) [
        | is_true h ↦
            record {
              number = (let e = rw h at found.is in cc);
              keys = sym (adding-known _ _ h);
              inside = old;
              least = omega arith;
              most = omega arith;
              long = (refl, refl, refl);
            }
        | is_false h ↦ absurd (let e = rw h at found.is in cc)
      ]

  pub numbered_new : Found (k ∷ part s a n) (keys_of s kinds starts sizes m) (Err r) → {kinds' starts' sizes' : List ℕ} → a + n ≤ length s
      → (m < length kinds) × (m < length starts) × (m < length sizes) → Added m k a n kinds starts sizes kinds' starts' sizes'
      → Numbered s kinds starts sizes m (k ∷ part s a n) kinds' starts' sizes' r (m + 1)
  numbered_new found inside room b =
      elim (see (has (k ∷ part s a n) (keys_of s kinds starts sizes m))) [
        | is_true h ↦ absurd (let e = rw h at found.is in cc)
        | is_false h ↦
            record {
              number = (let e = rw h at found.is in cc);
              keys = rw (b.its_kind, b.its_start, b.its_size, add-one m, adding_new _ _ h) (keys_more old k a n room 0 m (omega arith));
              inside = rw (b.its_kind, b.its_start, b.its_size) (inside_more old k a n room inside);
              least = omega arith;
              most = omega arith;
              long = (ap length b.its_kind ∙ simp length-set, ap length b.its_start ∙ simp length-set, ap length b.its_size ∙ simp length-set);
            }
      ]

-- the first n of m variables
pub inside_less : {s kinds starts sizes : List ℕ} {m : ℕ} (n : ℕ) → n ≤ m → Inside s kinds starts sizes m → Inside s kinds starts sizes n
inside_less n l h = record { room = (omega (arith, h.room.0), omega (arith, h.room.1), omega (arith, h.room.2)); each = λ j i. h.each j (omega arith) }

pub none_inside : (s kinds starts sizes : List ℕ) → Inside s kinds starts sizes 0
none_inside s kinds starts sizes = record { room = (omega arith, omega arith, omega arith); each = λ j h. absurd (omega arith) }
