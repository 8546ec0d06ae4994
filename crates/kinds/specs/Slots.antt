-- A slot for each variable, and sets of slots as the bits of a number.
use Rattle.std.specs.Prelude.{Bool, List, ℕ, ◌+◌, ◌-◌, ◌*◌, ◌/◌, ◌%◌, ◌^◌, get_or, take, drop, eqb}
use Rattle.std.specs.Int.Bits.{bit_or}

abbrev pub slot_of : ℕ → ℕ → ℕ
slot_of kind number = (kind - 8) * 16 + number

unfoldable pub within : ℕ → ℕ → Bool
within set slot = eqb (set / 2 ^ slot % 2) 1

unfoldable pub joined : ℕ → ℕ → ℕ
joined set slot = bit_or set (2 ^ slot)

-- the value in a slot of a table of starts and ends: a part of the argument
unfoldable pub value_of : List ℕ → List ℕ → ℕ → List ℕ
value_of arg table slot = take (get_or table (slot + 48) 0 - get_or table slot 0) (drop (get_or table slot 0) arg)
