-- A call of the support desk, by the definition.
use Rattle.std.specs.Prelude.{◌≡◌, List, ℕ}
use Rattle.meaning.specs.Desk.{Desk, desk, desk_call}
use Rattle.machine.specs.Codes.{code_of}
use Rattle.desk.specs.declared.Record.{Record}

-- a record with its field buffer and scratch
abbrev pub desk_of : Record → List ℕ → List ℕ → Desk
desk_of r field scratch = desk r.used (code_of r.code) r.place field scratch

-- what a call leaves
abbrev pub Called : List ℕ → Record → List ℕ → List ℕ → Record → List ℕ → List ℕ → Type 0
Called program r field scratch r' field' scratch' = desk_call program (desk_of r field scratch) ≡ desk_of r' field' scratch'
