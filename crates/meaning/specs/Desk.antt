-- The support desk's record and its call (document 01, 'The desk and the pointer').
use Rattle.std.specs.Prelude.{true, false, List, ℕ, zero, suc, eqb}
use Rattle.meaning.specs.Machine.{Answer, answer, machine}

-- "The support desk's record holds the used length, the last code and the last place"; beside it the field buffer and the scratch
pub data Desk : Type 0 where
  desk : ℕ → ℕ → ℕ → List ℕ → List ℕ → Desk

-- "it starts at code 1, place 0"
abbrev pub fresh_desk : ℕ → List ℕ → List ℕ → Desk
fresh_desk used field scratch = desk used 1 0 field scratch

-- what an answer leaves in the record and the buffers: all but its steps
abbrev pub noted : Answer → Desk
noted (answer c k used place field scratch) = desk used c place field scratch

-- "One call runs with budget 1 and updates it; when the code is not 1 the call alters nothing"
unfoldable pub desk_call : List ℕ → Desk → Desk
desk_call program (desk used c place field scratch) =
    elim (eqb c 1) [
      | true ↦ noted (machine program field used scratch 1)
      | false ↦ desk used c place field scratch
    ]

-- "k calls", one after the other
unfoldable pub desk_calls : List ℕ → ℕ → Desk → Desk
desk_calls program zero d = d
desk_calls program (suc k) d = desk_calls program k (desk_call program d)
