-- Numbers, bytes and parts off a file.
use Rattle.std.specs.Prelude.{◌≡◌, ℕ, List, [], ◌∷◌, length, Option, Some, None, ⊤}
use Rattle.std.specs.Int.{from_le_bytes, w32}
use Rattle.std.specs.Io.KnownBytes.{Consumes}

-- a number is that of the four bytes that a file had next
abbrev pub IsNext : Option (List ℕ) → Option (List ℕ) → Option ℕ → Type 0
IsNext old new (Some n) = (bs : List ℕ) × (length bs ≡ 4) × (n ≡ from_le_bytes w32 bs) × Consumes old new bs
IsNext old new None = ⊤

-- a byte is the one that a file had next
abbrev pub IsByte : Option (List ℕ) → Option (List ℕ) → Option ℕ → Type 0
IsByte old new (Some b) = Consumes old new (b ∷ [])
IsByte old new None = ⊤

-- a part is as long as the number of the four bytes that a file had next
abbrev pub IsPart : Option (List ℕ) → List ℕ → Type 0
IsPart old part = (bs : List ℕ) × (rest : Option (List ℕ)) × (length bs ≡ 4) × (length part ≡ from_le_bytes w32 bs) × Consumes old rest bs
