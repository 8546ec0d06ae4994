-- The pointer (document 01, 'The desk and the pointer').
use Rattle.std.specs.Prelude.{◌||◌, cond, List, [], ℕ, length, take, drop, eqb, leb}

-- "the part of the program or of the field from the place on"; empty "if the place is past" its end
unfoldable pub part_from : ℕ → List ℕ → List ℕ
part_from place part = cond (leb place (length part)) (drop place part) []

-- "the field up to its used length"; empty if that is "past the field buffer's"
unfoldable pub used_field : ℕ → List ℕ → List ℕ
used_field used field = cond (leb used (length field)) (take used field) []

-- "the program for code 6, the field up to its used length for 2, 3, 4 and 7. For other codes it is an empty part"
unfoldable pub pointer : ℕ → ℕ → ℕ → List ℕ → List ℕ → List ℕ
pointer c used place program field =
    cond (eqb c 6) (part_from place program)
    (cond (eqb c 2 || eqb c 3 || eqb c 4 || eqb c 7) (part_from place (used_field used field)) [])
