-- What the functions for C promise leaves no second answer, and the spot names the pointer's part.
use mathlib.Core.Path.{◌≡◌, refl, sym, ◌∙◌, ap}
use mathlib.Core.Bool.{false, ◌||◌, cond}
use mathlib.Core.List.{List, [], ◌∷◌, ◌++◌}
use Prim.Native.Nat.{ℕ, zero, suc, ◌-◌, ◌≤◌}
use native.Mathlib.Omega.{arith}
use lib.ListN.{length, take, drop}
use lib.Dec.{eqb, leb}
use borrow.Author.Tests.{leb-true, leb-false, le-ltb, ne_eqb}
use Rattle.meaning.specs.Pointer.{part_from, used_field, pointer}
use Rattle.meaning.proofs.Truth.{is_true, is_false, see}
use Rattle.desk.proofs.Pointing.{past-part, rest_of_part, used_past_field, place_past_used, inside_used}
use Rattle.embed.specs.Face.{Lent, lent, spot, pointer_face, named}

-- of the run, of the desk and of reading: no other numbers, no other byte
pub only_lent : {whole : Lent} {l₁ l₂ f₁ f₂ s₁ s₂ : List ℕ} → whole ≡ lent l₁ f₁ s₁ → whole ≡ lent l₂ f₂ s₂ → (l₁ ≡ l₂) × (f₁ ≡ f₂) × (s₁ ≡ s₂)
only_lent h k =
    let e = sym h ∙ k in
    (cc, cc, cc)

-- of the pointer: no other numbers
pub only_spot : (c used place : ℕ) (p f l : List ℕ) {a b : List ℕ} → a ≡ pointer_face c used place p f l → b ≡ pointer_face c used place p f l → a ≡ b
only_spot c used place p f l h k = h ∙ sym k

take_again : (m : ℕ) (l : List ℕ) → take (length (take m l)) l ≡ take m l
take_again zero l = refl
take_again (suc m) [] = refl
take_again (suc m) (x ∷ l) = ap (λ t. x ∷ t) (take_again m l)

of_program : (place : ℕ) (p : List ℕ) → (m : ℕ) × (take m (drop place p) ≡ part_from place p)
of_program place p =
    elim (see (leb place (length p))) [
      | is_true z ↦ (length p - place, rest_of_part place p (leb-true place (length p) z))
      | is_false z ↦ (0, past-part place p (leb-false place (length p) z))
    ]

of_field : (used place : ℕ) (f : List ℕ) → (m : ℕ) × (take m (drop place f) ≡ part_from place (used_field used f))
of_field used place f =
    elim (see (leb used (length f))) [
      | is_false y ↦ (0, used_past_field used place f (leb-false used (length f) y))
      | is_true y ↦
          elim (see (leb place used)) [
            | is_true z ↦ (used - place, inside_used used place f (leb-true used (length f) y) (leb-true place used z))
            | is_false z ↦ (0, place_past_used used place f (leb-true used (length f) y) (leb-false place used z))
          ]
    ]

-- the pointer's part begins at the place, in the slice that the spot names
of_slice : (c used place : ℕ) (p f : List ℕ) → (m : ℕ) × (take m (drop place (cond (eqb c 6) p f)) ≡ pointer c used place p f)
unfolding pointer
of_slice c used place p f =
    elim (see (eqb c 6)) [
      | is_true z ↦ rw z (of_program place p)
      | is_false z ↦
          elim (see (eqb c 2 || eqb c 3 || eqb c 4 || eqb c 7))
          [ is_true y ↦ rw (z, y) (of_field used place f) | is_false y ↦ rw (z, y) (0, refl) ]
    ]

pub names_the_part : (c used place : ℕ) (p f l : List ℕ) → 3 ≤ length l → named p f (pointer_face c used place p f l) ≡ pointer c used place p f
unfolding pointer_face spot named
names_the_part c used place p f l h = rw (le-ltb (length l) 3 h) (by_length (pointer c used place p f) (of_slice c used place p f).0 (of_slice c used place p f).1)
  where
    by_length : (part : List ℕ) (m : ℕ) → take m (drop place (cond (eqb c 6) p f)) ≡ part → named p f (spot c place (length part) ++ drop 3 l) ≡ part
    by_length [] m e = refl
    by_length (b ∷ bs) m e =
        let whole = drop place (cond (eqb c 6) p f) in
        let again : take (length (b ∷ bs)) whole ≡ b ∷ bs = ap (λ t. take (length t) whole) (sym e) ∙ take_again m whole ∙ e in
        let some : eqb (length (b ∷ bs)) 0 ≡ false = ne_eqb (length (b ∷ bs)) 0 (λ q. omega (arith, q)) in
        elim (see (eqb c 6)) [ is_true z ↦ rw (some, z) (rw z at again) | is_false z ↦ rw (some, z) (rw z at again) ]
