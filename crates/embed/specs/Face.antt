-- What the functions for C leave in the numbers and the two buffers that they were lent.
use Rattle.std.specs.Prelude.{cond, List, [], ◌∷◌, ◌++◌, ℕ, ltb, eqb, length, take, drop}
use Rattle.meaning.specs.Machine.{Answer, answer, machine}
use Rattle.meaning.specs.Desk.{Desk, desk, desk_call}
use Rattle.meaning.specs.Pointer.{pointer}
use Rattle.text.specs.Answers.{reply, Outcome, outcome, read_text}

-- numbers, and two buffers: field and scratch, or program and name list
pub data Lent : Type 0 where
  lent : List ℕ → List ℕ → List ℕ → Lent

-- the answer's four numbers; further numbers stay
abbrev pub told : List ℕ → Answer → Lent
told numbers (answer c k used place field scratch) = lent (c ∷ k ∷ used ∷ place ∷ drop 4 numbers) field scratch

-- with room for fewer than four numbers nothing happens
unfoldable pub run_face : List ℕ → List ℕ → ℕ → List ℕ → ℕ → List ℕ → Lent
run_face program field used scratch budget numbers =
    cond (ltb (length numbers) 4) (lent numbers field scratch) (told numbers (machine program field used scratch budget))

-- the record's three numbers; further numbers stay
abbrev pub kept : List ℕ → Desk → Lent
kept more (desk used c place field scratch) = lent (used ∷ c ∷ place ∷ more) field scratch

-- a record of fewer than three numbers is none, and nothing happens
unfoldable pub desk_face : List ℕ → List ℕ → List ℕ → List ℕ → Lent
desk_face [] program field scratch = lent [] field scratch
desk_face (a ∷ []) program field scratch = lent (a ∷ []) field scratch
desk_face (a ∷ b ∷ []) program field scratch = lent (a ∷ b ∷ []) field scratch
desk_face (used ∷ c ∷ place ∷ more) program field scratch = kept more (desk_call program (desk used c place field scratch))

-- which slice (1 the program, 2 the field), where the part begins in it, and how long it is; zeros for an empty part
unfoldable pub spot : ℕ → ℕ → ℕ → List ℕ
spot c place size = cond (eqb size 0) (0 ∷ 0 ∷ 0 ∷ []) (cond (eqb c 6) 1 2 ∷ place ∷ size ∷ [])

-- the spot of the part that the pointer hands back; further numbers stay, and with room for fewer than three nothing happens
unfoldable pub pointer_face : ℕ → ℕ → ℕ → List ℕ → List ℕ → List ℕ → List ℕ
pointer_face c used place program field numbers =
    cond (ltb (length numbers) 3) numbers (spot c place (length (pointer c used place program field)) ++ drop 3 numbers)

-- the bytes that a spot names
unfoldable pub named : List ℕ → List ℕ → List ℕ → List ℕ
named program field [] = []
named program field (a ∷ []) = []
named program field (a ∷ b ∷ []) = []
named program field (which ∷ from ∷ size ∷ more) = take size (drop from (cond (eqb which 1) program field))

-- the four numbers of a reading; further numbers stay
abbrev pub told_read : List ℕ → Outcome → Lent
told_read numbers (outcome (reply c p n place) program names) = lent (c ∷ p ∷ n ∷ place ∷ drop 4 numbers) program names

-- reading a text: with room for fewer than four numbers nothing happens
unfoldable pub read_face : List ℕ → List ℕ → List ℕ → List ℕ → Lent
read_face text program names numbers =
    cond (ltb (length numbers) 4) (lent numbers program names) (told_read numbers (read_text text program names))
