-- What it says that the program's name numbers and the name list agree.
use Rattle.std.specs.Prelude.{◌≡◌, Bool, true, false, ◌||◌, List, [], ◌∷◌, ℕ, suc, ◌<◌, eqb}
use Rattle.meaning.specs.Elements.{Element, kind}
use Rattle.text.specs.Numbering.{has}
use Rattle.text.specs.Reading.{element}

-- a name symbol, a call, a header
unfoldable pub naming : ℕ → Bool
naming k = eqb k 2 || (eqb k 6 || eqb k 13)

-- "numbered from 0 by first appearance": each name number is one of the n before it, or is n and from then on there are n + 1; in the end m
pub data Counted : ℕ → List Element → ℕ → Type 0 where
  over : {n : ℕ} → Counted n [] n
  other : {n m : ℕ} {e : Element} {es : List Element} → naming (kind e) ≡ false → Counted n es m → Counted n (e ∷ es) m
  known : {n m : ℕ} {es : List Element} (j k : ℕ) → naming j ≡ true → k < n → Counted n es m → Counted n (element j k ∷ es) m
  first : {n m : ℕ} {es : List Element} (j : ℕ) → naming j ≡ true → Counted (suc n) es m → Counted n (element j n ∷ es) m

-- no two alike
pub data Distinct : List (List ℕ) → Type 0 where
  alone : Distinct []
  besides : {x : List ℕ} {xs : List (List ℕ)} → has x xs ≡ false → Distinct xs → Distinct (x ∷ xs)
