-- What is printed.
use Rattle.std.specs.Prelude.{ℕ, List}
use Rattle.std.specs.List.{flat_map}
use Rattle.std.specs.Int.{to_be_bytes, w32}
use Rattle.hexing.specs.Digits.{pair_of}

-- bytes as digits of upper-case hex
abbrev pub hex_of : List ℕ → List ℕ
hex_of bytes = flat_map pair_of bytes

-- a number of four bytes as digits, the high byte first
abbrev pub word_of : ℕ → List ℕ
word_of n = hex_of (to_be_bytes w32 n)
