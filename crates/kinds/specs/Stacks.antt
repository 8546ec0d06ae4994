-- A stack kept at the front of a list.
use Rattle.std.specs.Prelude.{List, [], ◌∷◌, ℕ, zero, suc, get_or}

-- the first d numbers of a list, the latest first
unfoldable pub stack : ℕ → List ℕ → List ℕ
stack zero s = []
stack (suc d) s = get_or s d 0 ∷ stack d s
