-- Two parts of a text, compared byte by byte.
use mathlib.Core.Path.{◌≡◌, refl, sym, ◌∙◌, ap}
use mathlib.Core.Bool.{Bool, true, false, ◌&&◌}
use mathlib.Core.List.{List, [], ◌∷◌, map}
use Prim.Native.Nat.{ℕ, suc, ◌+◌, ◌-◌, ◌≤◌, ◌<◌}
use native.Mathlib.Omega.{arith}
use native.Mathlib.Numerals.{add-one}
use lib.ListN.{length, get_or, take, drop, length-drop}
use lib.Seq.{drop-cons}
use lib.Dec.{eqb}
use borrow.Author.Tests.{eq-eqb, ne_eqb}
use Rattle.meaning.specs.Elements.{same}
use Rattle.meaning.proofs.Truth.{is_true, is_false, see, same_eq}
use Rattle.classes.specs.Table.{spelling, part}

-- they are spelt alike
abbrev pub alike : List ℕ → List ℕ → Bool
alike xs ys = same (map spelling xs) (map spelling ys)

length-map : (f : ℕ → ℕ) (xs : List ℕ) → length (map f xs) ≡ length xs
length-map f [] = refl
length-map f (x ∷ xs) = ap suc (length-map f xs)

pub sizes_differ : (xs ys : List ℕ) → (length xs ≡ length ys → ⊥) → false ≡ alike xs ys
sizes_differ xs ys d =
    elim (see (alike xs ys)) [
      | is_true e ↦ absurd (d (sym (length-map spelling xs) ∙ ap length (same_eq _ _ e) ∙ length-map spelling ys))
      | is_false e ↦ sym e
    ]

empty : (xs : List ℕ) → length xs ≡ 0 → xs ≡ []
empty [] e = refl
empty (x ∷ xs) e = absurd (omega arith)

pub alike_none : (xs ys : List ℕ) (k : ℕ) → length xs ≤ k → length xs ≡ length ys → true ≡ alike (drop k xs) (drop k ys)
unfolding same
alike_none xs ys k l e = rw (empty (drop k xs) (omega (arith, length-drop k xs)), empty (drop k ys) (omega (arith, length-drop k ys)))

-- behind k bytes, where x and y are the next
module _ (xs ys : List ℕ) (k : ℕ) {x y : ℕ} (e : length xs ≡ length ys) (i : k < length xs)
    (p : x ≡ spelling (get_or xs k 0)) (q : y ≡ spelling (get_or ys k 0)) where
  step : alike (drop k xs) (drop k ys) ≡ (eqb x y && alike (drop (k + 1) xs) (drop (k + 1) ys))
  unfolding same
  step = rw (drop-cons xs k 0 i, drop-cons ys k 0 (omega arith), add-one k, ← p, ← q)

  pub alike_no : (x ≡ y → ⊥) → false ≡ alike (drop k xs) (drop k ys)
  alike_no d = sym (step ∙ rw (ne_eqb x y d))

  pub alike_on : x ≡ y → alike (drop (k + 1) xs) (drop (k + 1) ys) ≡ alike (drop k xs) (drop k ys)
  alike_on d = sym (step ∙ rw (eq-eqb x y d))

-- as they are cut out of a text
pub index_is : (s : List ℕ) (a n b m : ℕ) {r : Bool} → r ≡ alike (take (a + n - a) (drop a s)) (take (b + m - b) (drop b s)) → r ≡ same (part s a n) (part s b m)
unfolding part
index_is s a n b m e =
    let u : a + n - a ≡ n = omega arith in
    let v : b + m - b ≡ m = omega arith in
    rw (u, v) at e
