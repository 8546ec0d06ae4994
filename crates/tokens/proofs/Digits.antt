-- The value of decimal digits, cut off above the greatest macrodigit.
use mathlib.Core.Path.{◌≡◌, refl, sym, ◌∙◌, ap}
use mathlib.Core.List.{List, [], ◌∷◌}
use Prim.Native.Nat.{ℕ, suc, ◌+◌, ◌-◌, ◌*◌, ◌≤◌, ◌<◌}
use native.Mathlib.Omega.{arith}
use native.Mathlib.Numerals.{add-one}
use lib.ListN.{length, get_or, take, drop}
use lib.Seq.{drop-cons}
use lib.Dec.{ltb}
use borrow.Author.Tests.{lt-ltb, le-ltb, ltb-true, ltb-false, eq-eqb, ne_eqb}
use Rattle.meaning.proofs.Truth.{is_true, is_false, see}
use Rattle.text.specs.Classes.{class_of, is_digit, front}
use Rattle.text.specs.Tokens.{value, trim}
use Rattle.classes.proofs.Runs.{of_eq, of_ne, run_yes, run_no, run_past}
use Rattle.tokens.specs.Lexemes.{capped, Sums}

pub cap_over : (v : ℕ) → 4294967295 < v → capped v ≡ 4294967296
unfolding capped
cap_over v h = rw (lt-ltb 4294967295 v h)

pub cap_under : (v : ℕ) → v ≤ 4294967295 → capped v ≡ v
unfolding capped
cap_under v h = rw (le-ltb 4294967295 v h)

pub cap_most : (v : ℕ) → capped v ≤ 4294967296
cap_most v =
    elim (see (ltb 4294967295 v)) [
      | is_true h ↦ (let e : capped v ≡ 4294967296 = cap_over v (ltb-true _ _ h) in omega arith)
      | is_false h ↦ (let l : v ≤ 4294967295 = ltb-false _ _ h in let e : capped v ≡ v = cap_under v l in omega arith)
    ]

pub over_by : (v d x : ℕ) → d ≡ x → 4294967295 < v * 10 + d → 4294967296 ≡ capped (v * 10 + x)
over_by v d x e h = sym (cap_over (v * 10 + x) (omega arith))

pub under_by : (v d x : ℕ) → d ≡ x → v * 10 + d ≤ 4294967295 → v * 10 + d ≡ capped (v * 10 + x)
under_by v d x e h = ap (λ (u : ℕ). v * 10 + u) e ∙ sym (cap_under (v * 10 + x) (omega arith))

value-cons : (v d : ℕ) (ds : List ℕ) → value v (d ∷ ds) ≡ value (v * 10 + (d - 48)) ds
unfolding value
value-cons v d ds = refl

value-nil : (v : ℕ) → value v [] ≡ v
unfolding value
value-nil v = refl

value_grows : (v : ℕ) (ds : List ℕ) → v ≤ value v ds
value_grows v [] = (let e : value v [] ≡ v = value-nil v in omega arith)
value_grows v (d ∷ ds) =
    let e : value v (d ∷ ds) ≡ value (v * 10 + (d - 48)) ds = value-cons v d ds in
    let l : v * 10 + (d - 48) ≤ value (v * 10 + (d - 48)) ds = value_grows (v * 10 + (d - 48)) ds in
    omega arith

-- what was cut off stays cut off
cap_value : (v : ℕ) (ds : List ℕ) → capped (value (capped v) ds) ≡ capped (value v ds)
cap_value v ds =
    elim (see (ltb 4294967295 v)) [
      | is_true h ↦
          let l : 4294967295 < v = ltb-true _ _ h in
          let e : capped v ≡ 4294967296 = cap_over v l in
          let a : capped v ≤ value (capped v) ds = value_grows (capped v) ds in
          let b : v ≤ value v ds = value_grows v ds in
          cap_over (value (capped v) ds) (omega arith) ∙ sym (cap_over (value v ds) (omega arith))
      | is_false h ↦ (let l : v ≤ 4294967295 = ltb-false _ _ h in ap (λ (w : ℕ). capped (value w ds)) (cap_under v l))
    ]

-- the digits from i on, v standing before them, are those from `at` on
pub record Adds (s : List ℕ) (at i v : ℕ) : Type 0 where
  pub ends : i + length (front is_digit (drop i s)) ≡ at + length (front is_digit (drop at s))
  pub sums : capped (value v (front is_digit (drop i s))) ≡ capped (value 0 (front is_digit (drop at s)))
  pub low : v ≤ 4294967296
  pub own : capped v ≡ v

pub begins : (s : List ℕ) (at : ℕ) → Adds s at at 0
begins s at = record { ends = refl; sums = refl; low = omega arith; own = cap_under 0 (omega arith) }

module _ (s : List ℕ) (at i v : ℕ) (inv : Adds s at i v) where
  closes : front is_digit (drop i s) ≡ [] → Sums s at i v
  closes e = record {
    ends = (let z : i ≡ i + 0 = omega arith in z) ∙ ap (λ (l : List ℕ). i + length l) (sym e) ∙ inv.ends;
    sums = sym inv.own ∙ ap capped (sym (value-nil v) ∙ ap (value v) (sym e)) ∙ inv.sums;
  }

  pub stops : i < length s → (k : ℕ) → k ≡ class_of (get_or s i 0) → (k ≡ 6 → ⊥) → Sums s at i v
  stops h k e n = closes (run_no is_digit s i h (of_ne 6 _ k e n))

  pub out : length s ≤ i → Sums s at i v
  out h = closes (run_past is_digit s i h)

  pub turned : i < length s → (k : ℕ) → k ≡ class_of (get_or s i 0) → k ≡ 6 → (w : ℕ) → w ≡ capped (v * 10 + (get_or s i 0 - 48)) → Adds s at (i + 1) w
  turned h k e q w d =
      let f : front is_digit (drop i s) ≡ get_or s i 0 ∷ front is_digit (drop (i + 1) s) = run_yes is_digit s i h (of_eq 6 _ k e q) in
      record {
        ends = (let z : i + 1 + length (front is_digit (drop (i + 1) s)) ≡ i + suc (length (front is_digit (drop (i + 1) s))) = omega arith in z) ∙ ap (λ (l : List ℕ). i + length l) (sym f) ∙ inv.ends;
        sums = ap (λ (u : ℕ). capped (value u (front is_digit (drop (i + 1) s)))) d ∙ cap_value _ _ ∙ ap capped (sym (value-cons v _ _) ∙ ap (value v) (sym f)) ∙ inv.sums;
        low = (let m : capped (v * 10 + (get_or s i 0 - 48)) ≤ 4294967296 = cap_most _ in omega arith);
        own = ap capped d ∙ twice _ ∙ sym d;
      }
    where
      twice : (u : ℕ) → capped (capped u) ≡ capped u
      twice u = sym (ap capped (value-nil (capped u))) ∙ cap_value u [] ∙ ap capped (value-nil u)

-- LEADING ZEROS

-- the bytes from i up to `end`
part-cons : (s : List ℕ) (i end : ℕ) → i < end → end ≤ length s → take (end - i) (drop i s) ≡ get_or s i 0 ∷ take (end - (i + 1)) (drop (i + 1) s)
part-cons s i end h l =
    let n : end - i ≡ suc (end - (i + 1)) = omega arith in
    rw (n, drop-cons s i 0 (omega arith), add-one i)

module _ (s : List ℕ) (i end : ℕ) (l : end ≤ length s) where
  abbrev figures : List ℕ
  figures = take (end - i) (drop i s)

  two : i + 1 < end → figures ≡ get_or s i 0 ∷ get_or s (i + 1) 0 ∷ take (end - (i + 1 + 1)) (drop (i + 1 + 1) s)
  two h = part-cons s i end (omega arith) l ∙ ap {B = List ℕ} (λ x. get_or s i 0 ∷ x) (part-cons s (i + 1) end h l)

  pub zero_on : i + 1 < end → get_or s i 0 ≡ 48 → trim (take (end - (i + 1)) (drop (i + 1) s)) ≡ trim figures
  unfolding trim
  zero_on h e = sym (rw (two h, eq-eqb _ 48 e, trim) (sym (ap trim (part-cons s (i + 1) end h l))))

  pub zero_stop : i + 1 < end → (get_or s i 0 ≡ 48 → ⊥) → figures ≡ trim figures
  unfolding trim
  zero_stop h n = rw (two h, ne_eqb _ 48 n, trim)

  pub zero_last : i < end → end ≤ i + 1 → figures ≡ trim figures
  unfolding trim
  zero_last h m = (let z : end - (i + 1) ≡ 0 = omega arith in rw (part-cons s i end h l, z))
