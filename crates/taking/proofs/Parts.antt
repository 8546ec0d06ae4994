-- The parts by number, and the rule of the table at all its entries.
use mathlib.Core.Path.{◌≡◌, refl, sym, ◌∙◌, ap}
use mathlib.Core.Bool.{Bool, true, false, ◌&&◌, ◌||◌, not, cond}
use mathlib.Core.List.{List}
use Prim.Native.Nat.{ℕ, zero, suc, ◌+◌, ◌-◌, ◌*◌, ◌/◌, ◌%◌, ◌≤◌, ◌<◌}
use native.Mathlib.Omega.{arith}
use lib.ListN.{length, get_or, replicate}
use Rattle.std.specs.Prelude.{Some, None}
use lib.Dec.{T, eqb, leb, ltb, eqb→eq}
use borrow.Author.Tests.{ne_eqb, lt-leb}
use Rattle.meaning.specs.Goodness.{Part, field, outside, start, left, right, after, ended, span, stands, implies, ends_side, under_limit, on_right, part_after, sided}
use Rattle.meaning.proofs.Truth.{T_true, never, and_false, is_true, is_false, see}
use Rattle.meaning.proofs.Tables.{every, table_at}
use Rattle.taking.specs.Standing.{number_of, part_of, next_of}
use Rattle.taking.specs.declared.TheConstants.{NEXT}

far : (p n : ℕ) → 5 < p → n ≤ 5 → eqb p n ≡ false
far p n h l = ne_eqb p n (λ e. omega arith)

-- what holds of each part and its number
module _ {A : Type 0} (F : Part → A) (G : ℕ → A) where
  pub by_part : F field ≡ G 0 → F outside ≡ G 1 → F start ≡ G 2 → F left ≡ G 3 → F right ≡ G 4 → F after ≡ G 5
      → ((p : ℕ) → 5 < p → F ended ≡ G p) → (p : ℕ) → F (part_of p) ≡ G p
  unfolding part_of
  by_part f0 f1 f2 f3 f4 f5 f6 zero = f0
  by_part f0 f1 f2 f3 f4 f5 f6 (suc zero) = f1
  by_part f0 f1 f2 f3 f4 f5 f6 (suc (suc zero)) = f2
  by_part f0 f1 f2 f3 f4 f5 f6 (suc (suc (suc zero))) = f3
  by_part f0 f1 f2 f3 f4 f5 f6 (suc (suc (suc (suc zero)))) = f4
  by_part f0 f1 f2 f3 f4 f5 f6 (suc (suc (suc (suc (suc zero))))) = f5
  by_part f0 f1 f2 f3 f4 f5 f6 (suc (suc (suc (suc (suc (suc p)))))) = rest (suc (suc (suc (suc (suc (suc p)))))) (omega arith)
    where
      rest : (n : ℕ) → 5 < n → F (part_of n) ≡ G n
      rest n h = rw (far n 0 h (omega arith), far n 1 h (omega arith), far n 2 h (omega arith), far n 3 h (omega arith), far n 4 h (omega arith), far n 5 h (omega arith)) (f6 n h)

pub on_right_lem : (p : ℕ) → on_right (part_of p) ≡ eqb p 4
unfolding on_right
on_right_lem p = by_part on_right (λ n. eqb n 4) refl refl refl refl refl refl (λ n h. sym (far n 4 h (omega arith))) p

pub limit_is : (p n : ℕ) → under_limit (part_of p) n ≡ cond (eqb p 0) true (cond (eqb p 4) (ltb n 400) (ltb n 100))
unfolding under_limit
limit_is p n =
    by_part (λ q. under_limit q n) (λ m. cond (eqb m 0) true (cond (eqb m 4) (ltb n 400) (ltb n 100))) refl refl refl refl refl refl
    (λ m h. rw (far m 0 h (omega arith), far m 4 h (omega arith))) p

pub sided_is : (p : ℕ) → sided (part_of p) ≡ (eqb p 0 || span 3 4 p)
unfolding sided span
sided_is p =
    by_part sided (λ n. eqb n 0 || span 3 4 n) refl refl refl refl refl refl
    (λ n h. rw (far n 0 h (omega arith), lt-leb n 4 (omega arith)) (sym (and_false (leb 3 n)))) p

-- a field is never left, and never come to
pub in_field : (p : ℕ) → eqb (number_of (part_of p)) 0 ≡ eqb p 0
in_field p = by_part (λ q. eqb (number_of q) 0) (λ n. eqb n 0) refl refl refl refl refl refl (λ n h. sym (far n 0 h (omega arith))) p

either : (b : Bool) (x y : Part) → eqb (number_of x) 0 ≡ false → eqb (number_of y) 0 ≡ false → eqb (number_of (cond b x y)) 0 ≡ false
either true x y f g = f
either false x y f g = g

pub field_stays : (p : Part) (k : ℕ) → eqb (number_of (part_after p k)) 0 ≡ eqb (number_of p) 0
unfolding part_after
field_stays field k = refl
field_stays outside k = either (eqb k 13) start ended refl refl
field_stays start k = either (eqb k 11) right left refl refl
field_stays left k = either (eqb k 11) right left refl refl
field_stays right k = either (eqb k 12) after right refl refl
field_stays after k = either (eqb k 11) right _ refl (either (eqb k 14) outside left refl refl)
field_stays ended k = refl

pub part-number : (q : Part) → part_of (number_of q) ≡ q
unfolding part_of
part-number field = refl
part-number outside = refl
part-number start = refl
part-number left = refl
part-number right = refl
part-number after = refl
part-number ended = refl

pub number_small : (q : Part) → number_of q < 7
number_small field = omega arith
number_small outside = omega arith
number_small start = omega arith
number_small left = omega arith
number_small right = omega arith
number_small after = omega arith
number_small ended = omega arith

-- ---- the table
unfoldable digit : Part → ℕ → ℕ
digit p k = cond (stands p k) (number_of (part_after p k)) 7

unfoldable fits : ℕ → ℕ → Bool
fits j n = eqb n (48 + digit (part_of (j / 32)) (j % 32))

-- one test of all the entries
leads : (moves : List ℕ) → T (every fits 0 moves) → 224 ≤ length moves → (p k : ℕ) → p < 7 → k < 32 → get_or moves (p * 32 + k) 0 ≡ 48 + digit (part_of p) k
unfolding fits
leads moves t l p k hp hk =
    let j : ℕ = p * 32 + k in
    let ep : j / 32 ≡ p = omega arith in
    let ek : j % 32 ≡ k = omega arith in
    eqb→eq (get_or moves j 0) (48 + digit (part_of p) k) (rw (ep, ek) at (table_at fits moves t j (omega arith)))

entry : (p k : ℕ) → p < 7 → k < 32 → get_or NEXT (p * 32 + k) 0 ≡ 48 + digit (part_of p) k
unfolding fits digit part_of stands span part_after
entry = leads NEXT tt (omega arith)

pub entry_is : (p k : ℕ) → p < 7 → k ≤ 31 → 48 ≤ get_or NEXT (p * 32 + k) 0
entry_is p k hp hk = omega (arith, entry p k hp (omega arith))

module _ (p k n : ℕ) (hp : p < 7) (hk : k ≤ 31) (e : n ≡ get_or NEXT (p * 32 + k) 0 - 48) where
  digit_is : n ≡ digit (part_of p) k
  digit_is = omega (arith, e, entry p k hp (omega arith))

  pub leads_some : n < 7 → Some n ≡ next_of (part_of p) k
  unfolding next_of digit
  leads_some h =
      elim (see (stands (part_of p) k)) [
        | is_true z ↦ rw z (ap Some (digit_is ∙ rw z))
        | is_false z ↦ never (omega (arith, rw z at digit_is))
      ]

  pub leads_none : 7 ≤ n → None ≡ next_of (part_of p) k
  unfolding next_of digit
  leads_none h =
      elim (see (stands (part_of p) k)) [
        | is_true z ↦ never (omega (arith, number_small (part_after (part_of p) k), rw z at digit_is))
        | is_false z ↦ rw z
      ]

-- no kind beyond the table can stand
stands_low : (p : Part) (k : ℕ) → 31 < k → stands p k ≡ false
unfolding stands span
stands_low field k h = rw (lt-leb k 7 (omega arith)) (and_false (leb 1 k))
stands_low outside k h = rw (ne_eqb k 13 (λ e. omega arith), ne_eqb k 15 (λ e. omega arith))
stands_low start k h = rw (lt-leb k 5 (omega arith), lt-leb k 11 (omega arith), and_false (leb 1 k), and_false (leb 8 k))
stands_low left k h = rw (lt-leb k 5 (omega arith), lt-leb k 11 (omega arith), and_false (leb 1 k), and_false (leb 8 k))
stands_low right k h = rw (lt-leb k 10 (omega arith), ne_eqb k 12 (λ e. omega arith), and_false (leb 1 k))
stands_low after k h = rw (lt-leb k 5 (omega arith), lt-leb k 11 (omega arith), ne_eqb k 14 (λ e. omega arith), and_false (leb 1 k), and_false (leb 8 k))
stands_low ended k h = refl

pub leads_beyond : (p k : ℕ) → 31 < k → None ≡ next_of (part_of p) k
unfolding next_of
leads_beyond p k h = rw (stands_low (part_of p) k h)

-- what one test finds at every part and every known kind
everywhere : (f : Part → ℕ → Bool) → T (every (λ j n. f (part_of (j / 16)) (j % 16)) 0 (replicate 112 0)) → (p k : ℕ) → p < 7 → k < 16 → f (part_of p) k ≡ true
everywhere f t p k hp hk =
    let j : ℕ = p * 16 + k in
    let ep : j / 16 ≡ p = omega arith in
    let ek : j % 16 ≡ k = omega arith in
    T_true (f (part_of p) k) (rw (ep, ek) at (table_at (λ j n. f (part_of (j / 16)) (j % 16)) (replicate 112 0) t j (omega arith)))

-- what leads to a part with no sides, and ends no side, is no bracket, and stood in such a part
unfoldable pub idles : Part → ℕ → Bool
idles p k = implies (stands p k && (not (ends_side k) && not (sided (part_after p k)))) (leb 8 k && not (sided p))

pub idles_all : (p k : ℕ) → p < 7 → k < 16 → idles (part_of p) k ≡ true
unfolding idles part_of stands part_after span ends_side sided
idles_all p k hp hk = everywhere idles tt p k hp hk

-- a variable leads to a right side from a right side only
unfoldable pub stays : Part → ℕ → Bool
stays p k = implies (span 8 10 k && not (on_right p)) (not (on_right (part_after p k)))

pub stays_all : (p k : ℕ) → p < 7 → k < 16 → stays (part_of p) k ≡ true
unfolding stays part_of part_after span on_right
stays_all p k hp hk = everywhere stays tt p k hp hk
