-- The bytes of a text by class (request One: "A table over all 256 byte values says which class each belongs to").
use Rattle.std.specs.Prelude.{Bool, true, false, ◌||◌, cond, List, [], ◌∷◌, ℕ, ◌+◌, eqb}
use Rattle.meaning.specs.Goodness.{span}

-- classes are numbered so that each run of bytes that counts is a run of classes; 0: begins no token
unfoldable pub class_of : ℕ → ℕ
class_of b =
    -- space and tab
    cond (eqb b 32 || eqb b 9) 1
    -- / of a comment
    (cond (eqb b 47) 2
    -- A to Z
    (cond (span 65 90 b) 3
    -- s, t, e begin a variable; the other small letters begin nothing
    (cond (eqb b 115 || eqb b 116 || eqb b 101) 5
    (cond (span 97 122 b) 4
    -- 0 to 9
    (cond (span 48 57 b) 6
    -- dash and underscore
    (cond (eqb b 45 || eqb b 95) 7
    -- quotes
    (cond (eqb b 39 || eqb b 34) 8
    -- ( ) > { } = ; are tokens by themselves
    (cond (span 40 41 b || span 61 62 b || eqb b 123 || eqb b 125 || eqb b 59) 9
    -- <
    (cond (eqb b 60) 10
    -- star
    (cond (eqb b 42) 11
    -- line feed and carriage return
    (cond (eqb b 10 || eqb b 13) 12 0)))))))))))

-- a byte of the classes lo to hi
unfoldable pub of : ℕ → ℕ → ℕ → Bool
of lo hi b = span lo hi (class_of b)

abbrev pub is_capital : ℕ → Bool
is_capital = of 3 3

abbrev pub is_letter : ℕ → Bool
is_letter = of 3 5

-- "s-, t-, e-variable"
abbrev pub is_type : ℕ → Bool
is_type = of 5 5

abbrev pub is_digit : ℕ → Bool
is_digit = of 6 6

-- letters, digits, dash and underscore: what an identifier has behind its capital
abbrev pub in_name : ℕ → Bool
in_name = of 3 7

-- what ends a line: it closes a star's comment, and leaves a string "not closed on its line"
abbrev pub ends_line : ℕ → Bool
ends_line = of 12 12

abbrev pub in_line : ℕ → Bool
in_line = of 0 11

-- the longest front of bytes for which p holds
unfoldable pub front : (ℕ → Bool) → List ℕ → List ℕ
front p [] = []
front p (b ∷ bs) = elim (p b) [ true ↦ b ∷ front p bs | false ↦ [] ]

-- "A name list holds one spelling: later letters small, dashes"
abbrev pub spell : ℕ → ℕ
spell b = cond (is_capital b) (b + 32) (cond (eqb b 95) 45 b)
