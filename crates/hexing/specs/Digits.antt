-- Bytes as digits.
use Rattle.std.specs.Prelude.{ℕ, ◌+◌, ◌/◌, ◌%◌, List, [], ◌∷◌, ◌++◌, if◌then◌else◌, nat_lt}
use Rattle.std.specs.List.{flat_map}

-- a digit of upper-case hex, in ASCII
abbrev pub digit_of : ℕ → ℕ
digit_of n = if nat_lt n 10 then 48 + n else 55 + n

-- a byte as two digits
abbrev pub pair_of : ℕ → List ℕ
pair_of b = digit_of (b / 16) ∷ digit_of (b % 16) ∷ []

-- bytes as two digits each, a text before each of them
abbrev pub behind : List ℕ → List ℕ → List ℕ
behind between bytes = flat_map (λ b. between ++ pair_of b) bytes

-- bytes as two digits each, with a text between two of them
abbrev pub spelled : List ℕ → List ℕ → List ℕ
spelled between [] = []
spelled between (b ∷ bytes) = pair_of b ++ behind between bytes
