-- Elements and their bytes (document 01, 'Elements').
use Rattle.std.specs.Prelude.{Bool, true, false, ◌&&◌, ◌||◌, List, [], ◌∷◌, ◌++◌, ℕ, zero, suc, length, get_or, take, eqb, leb}

-- "one byte of kind, then a body whose length the kind fixes": the column Body of the table, kinds 00 to 0F
abbrev pub bodies : List ℕ
bodies = 0 ∷ 1 ∷ 2 ∷ 4 ∷ 0 ∷ 0 ∷ 2 ∷ 0 ∷ 1 ∷ 1 ∷ 1 ∷ 0 ∷ 0 ∷ 2 ∷ 0 ∷ 0 ∷ []

-- a kind's entry in that column; an unknown kind has no body
unfoldable pub body : ℕ → ℕ
body k = get_or bodies k 0

-- an element is its bytes: "one byte of kind, then a body"
abbrev pub Element : Type 0
Element = List ℕ

-- its "one byte of kind"
abbrev pub kind : Element → ℕ
kind [] = 0
kind (k ∷ bs) = k

-- bytes cut into elements, n bytes being still to come of the element before; the last element may be "cut short"
unfoldable pub cut : ℕ → List ℕ → List Element
cut n [] = []
cut zero (k ∷ bs) = (k ∷ take (body k) bs) ∷ cut (body k) bs
cut (suc n) (b ∷ bs) = cut n bs

-- the elements of bytes "Read from the start"
abbrev pub elements : List ℕ → List Element
elements bs = cut 0 bs

-- the elements' bytes, one after the other, as they stand in a buffer
unfoldable pub join : List Element → List ℕ
join [] = []
join (e ∷ es) = e ++ join es

-- how many bytes they are: what lengths, places and room are counted in
unfoldable pub size : List Element → ℕ
size es = length (join es)

-- equal bytes; as the kind is among them, "symbols of different kinds are never equal", and "Kind and number together name a variable"
unfoldable pub same : List ℕ → List ℕ → Bool
same [] [] = true
same [] (b ∷ ys) = false
same (a ∷ xs) [] = false
same (a ∷ xs) (b ∷ ys) = eqb a b && same xs ys

-- e is in the list: for variables that were met before
unfoldable pub among : Element → List Element → Bool
among e [] = false
among e (x ∷ xs) = same e x || among e xs

-- e has kind k of the table
abbrev pub is_kind : ℕ → Element → Bool
is_kind k e = eqb (kind e) k

-- "Kinds 01, 02 and 03 are symbols"
unfoldable pub is_symbol : Element → Bool
is_symbol e = leb 1 (kind e) && leb (kind e) 3

-- 08, 09, 0A: "s-, t-, e-variable"
unfoldable pub is_variable : Element → Bool
is_variable e = leb 8 (kind e) && leb (kind e) 10
