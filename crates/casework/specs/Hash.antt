-- The hash FNV-1a, in 32 bits.
use Rattle.std.specs.Prelude.{ℕ, ◌*◌, ◌%◌, ◌^◌, List, fold, bit_xor}

-- the hash with one more byte
abbrev pub hashed_on : ℕ → ℕ → ℕ
hashed_on h b = (bit_xor h b * 16777619) % 2 ^ 32

abbrev pub hash_of : List ℕ → ℕ
hash_of bytes = fold hashed_on 2166136261 bytes
