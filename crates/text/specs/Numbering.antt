-- Numbers by first appearance (document 01, 'Rules as text').
use Rattle.std.specs.Prelude.{Bool, true, false, ◌||◌, cond, List, [], ◌∷◌, ◌++◌, ℕ, suc, eqb}
use Rattle.meaning.specs.Elements.{kind, same}

-- what is numbered: its kind, then its one spelling. A name's kind is that of its record, 14 in hexadecimal
abbrev pub Key : Type 0
Key = List ℕ

unfoldable pub name_key : List ℕ → Key
name_key x = 20 ∷ x

-- "numbered from 0 by first appearance ..., for each kind": how many keys of its kind stand before the first that equals it, or in all
unfoldable pub number_of : Key → List Key → ℕ
number_of x [] = 0
number_of x (k ∷ ks) = elim (same x k) [ true ↦ 0 | false ↦ elim (eqb (kind x) (kind k)) [ true ↦ suc (number_of x ks) | false ↦ number_of x ks ] ]

unfoldable pub has : Key → List Key → Bool
has x [] = false
has x (k ∷ ks) = same x k || has x ks

-- a key more, if it is new
unfoldable pub adding : Key → List Key → List Key
adding x ks = cond (has x ks) ks (ks ++ (x ∷ []))
