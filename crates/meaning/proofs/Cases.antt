-- The twelve worked cases of document 01, as one table under one theorem.
use mathlib.Core.Bool.{Bool, true, false, ◌&&◌}
use mathlib.Core.Option.{Option, none, some}
use mathlib.Core.List.{List, [], ◌∷◌, ◌++◌}
use Prim.Native.Nat.{ℕ, ◌-◌}
use lib.ListN.{length, replicate, take, set}
use lib.Dec.{T, eqb}
use Rattle.meaning.specs.Elements.{elements, cut, join, size, same, body, among, is_symbol, is_variable}
use Rattle.meaning.specs.Goodness.{span, stands, ends_side, paired, under_limit, on_right, tests, first_failing, fault, part_after, opens_after, sided, count_after, variables_after, state_after, may_end, first_bad, bad_program, bad_field}
use Rattle.meaning.specs.Matching.{Env, free, bind, keep, seek, put, given, role, token, past, fronts, push, push_all, exact, symbols, second, fresh, known, first_of}
use Rattle.meaning.specs.Machine.{Answer, answer, machine, before, behind, holds, onto, pieces, shift, innermost, leading, function, apply, fit_in, replace, call, step_at, step, run, longest, sizes, closing}

-- P is Find { s.0 e.1 (s.0 t.0) e.2 = t.0; s.0 e.1 = ; }
unfoldable pub find : List ℕ
find = 0x0D ∷ 1 ∷ 0 ∷ 8 ∷ 0 ∷ 10 ∷ 1 ∷ 4 ∷ 8 ∷ 0 ∷ 9 ∷ 0 ∷ 5 ∷ 10 ∷ 2 ∷ 11 ∷ 9 ∷ 0 ∷ 12 ∷ 8 ∷ 0 ∷ 10 ∷ 1 ∷ 11 ∷ 12 ∷ 14 ∷ 15 ∷ []

-- Tri { e.0 = e.0 e.0 e.0; }
unfoldable pub tri : List ℕ
tri = 13 ∷ 3 ∷ 0 ∷ 10 ∷ 0 ∷ 11 ∷ 10 ∷ 0 ∷ 10 ∷ 0 ∷ 10 ∷ 0 ∷ 12 ∷ 14 ∷ 15 ∷ []

unfoldable pub field1 : List ℕ
field1 = 6 ∷ 1 ∷ 0 ∷ 1 ∷ 0x70 ∷ 4 ∷ 1 ∷ 0x70 ∷ 2 ∷ 2 ∷ 0 ∷ 5 ∷ 4 ∷ 1 ∷ 0x70 ∷ 2 ∷ 4 ∷ 0 ∷ 5 ∷ 7 ∷ []

unfoldable pub field6 : List ℕ
field6 = 1 ∷ 0x78 ∷ 6 ∷ 1 ∷ 0 ∷ 1 ∷ 0x70 ∷ 4 ∷ 6 ∷ 1 ∷ 0 ∷ 1 ∷ 0x70 ∷ 4 ∷ 1 ∷ 0x70 ∷ 1 ∷ 0x70 ∷ 5 ∷ 7 ∷ 2 ∷ 2 ∷ 0 ∷ 5 ∷ 7 ∷ []

-- a variable and the bytes of its value
pub data Bound : Type 0 where
  ◌is◌ : List ℕ → List ℕ → Bound

infix 70 ◌is◌
-- a run: program, buffer's length, field, budget; code, steps, place, field after. Or a left side that fits an argument, with values; or one that does not
pub data Case : Type 0 where
  runs : List ℕ → ℕ → List ℕ → ℕ → ℕ → ℕ → ℕ → List ℕ → Case
  fits : List ℕ → List ℕ → List Bound → Case
  misfits : List ℕ → List ℕ → Case

-- equal answers
abbrev same_answer : Answer → Answer → Bool
same_answer (answer c k u i f s) (answer c' k' u' i' f' s') = eqb c c' && eqb k k' && eqb u u' && eqb i i' && same f f' && same s s'

abbrev padded : ℕ → List ℕ → List ℕ
padded n f = f ++ replicate (n - length f) 0

abbrev agree : Env → List Bound → Bool
agree env [] = true
agree env ((v is x) ∷ bs) = same (join (given env v)) x && agree env bs

abbrev found : Option Env → List Bound → Bool
found none bs = false
found (some env) bs = agree env bs

abbrev lost : Option Env → Bool
lost none = true
lost (some env) = false

-- a case is right
unfoldable pub right : Case → Bool
right (runs p n f b c k i f') = same_answer (machine p (padded n f) (length f) (replicate n 9) b) (answer c k (length f') i (padded n f') (replicate n 0))
right (fits l x vs) = found (seek (elements l) (elements x) free) vs
right (misfits l x) = lost (seek (elements l) (elements x) free)

-- all cases are right
unfoldable pub every : List Case → Bool
every [] = true
every (c ∷ cs) = right c && every cs

unfoldable pub chars : List ℕ → List ℕ
chars [] = []
chars (c ∷ cs) = 1 ∷ c ∷ chars cs

-- 'a+a+a'
unfoldable pub plus : List ℕ
plus = chars (97 ∷ 0x2B ∷ 97 ∷ 0x2B ∷ 97 ∷ [])

unfoldable pub cases : List Case
cases =
    -- 1
    runs find 32 field1 10 0 1 0 (2 ∷ 2 ∷ 0 ∷ [])
    -- 2
    ∷ runs find 32 (6 ∷ 1 ∷ 0 ∷ 1 ∷ 0x71 ∷ 4 ∷ 1 ∷ 0x70 ∷ 2 ∷ 2 ∷ 0 ∷ 5 ∷ 7 ∷ []) 10 0 1 0 []
    -- 3
    ∷ runs find 32 (6 ∷ 1 ∷ 0 ∷ 7 ∷ []) 10 2 0 0 (6 ∷ 1 ∷ 0 ∷ 7 ∷ [])
    -- 4
    ∷ runs find 32 field1 0 1 0 0 field1
    ∷ runs find 32 [] 0 0 0 0 []
    -- 5
    ∷ runs find 32 (6 ∷ 9 ∷ 0 ∷ 7 ∷ []) 10 3 0 0 (6 ∷ 9 ∷ 0 ∷ 7 ∷ [])
    -- 6
    ∷ runs find 32 field6 10 0 2 0 (1 ∷ 0x78 ∷ 2 ∷ 2 ∷ 0 ∷ [])
    ∷ runs find 32 field6 1 1 1 0 (1 ∷ 0x78 ∷ 6 ∷ 1 ∷ 0 ∷ 1 ∷ 0x70 ∷ 4 ∷ 1 ∷ 0x70 ∷ 2 ∷ 2 ∷ 0 ∷ 5 ∷ 7 ∷ [])
    -- 7
    ∷ runs tri 12 (6 ∷ 3 ∷ 0 ∷ 1 ∷ 97 ∷ 1 ∷ 98 ∷ 7 ∷ []) 10 0 1 0 (chars (97 ∷ 98 ∷ 97 ∷ 98 ∷ 97 ∷ 98 ∷ []))
    ∷ runs tri 11 (6 ∷ 3 ∷ 0 ∷ 1 ∷ 97 ∷ 1 ∷ 98 ∷ 7 ∷ []) 10 4 0 0 (6 ∷ 3 ∷ 0 ∷ 1 ∷ 97 ∷ 1 ∷ 98 ∷ 7 ∷ [])
    -- 8
    ∷ fits (10 ∷ 0 ∷ 8 ∷ 0 ∷ 10 ∷ 1 ∷ 8 ∷ 0 ∷ 10 ∷ 2 ∷ []) (chars (97 ∷ 98 ∷ 99 ∷ 98 ∷ 97 ∷ 99 ∷ []))
    ((10 ∷ 0 ∷ []) is [] ∷ (8 ∷ 0 ∷ []) is chars (97 ∷ []) ∷ (10 ∷ 1 ∷ []) is chars (98 ∷ 99 ∷ 98 ∷ []) ∷ (10 ∷ 2 ∷ []) is chars (99 ∷ []) ∷ [])
    -- 9
    ∷ fits (4 ∷ 10 ∷ 1 ∷ 1 ∷ 0x2B ∷ 10 ∷ 2 ∷ 5 ∷ 10 ∷ 3 ∷ 1 ∷ 0x2B ∷ 10 ∷ 1 ∷ []) (4 ∷ plus ++ (5 ∷ plus))
    ((10 ∷ 1 ∷ []) is chars (97 ∷ []) ∷ (10 ∷ 2 ∷ []) is chars (97 ∷ 0x2B ∷ 97 ∷ []) ∷ (10 ∷ 3 ∷ []) is chars (97 ∷ 0x2B ∷ 97 ∷ []) ∷ [])
    -- 10
    ∷ fits (9 ∷ 0 ∷ 9 ∷ 0 ∷ []) (4 ∷ 1 ∷ 97 ∷ 5 ∷ 4 ∷ 1 ∷ 97 ∷ 5 ∷ []) ((9 ∷ 0 ∷ []) is (4 ∷ 1 ∷ 97 ∷ 5 ∷ []) ∷ [])
    ∷ misfits (9 ∷ 0 ∷ 9 ∷ 0 ∷ []) (1 ∷ 97 ∷ 3 ∷ 97 ∷ 0 ∷ 0 ∷ 0 ∷ [])
    -- 11
    ∷ fits (10 ∷ 0 ∷ 10 ∷ 0 ∷ []) [] ((10 ∷ 0 ∷ []) is [] ∷ [])
    ∷ fits (10 ∷ 0 ∷ 10 ∷ 0 ∷ []) (chars (97 ∷ 98 ∷ 97 ∷ 98 ∷ [])) ((10 ∷ 0 ∷ []) is chars (97 ∷ 98 ∷ []) ∷ [])
    ∷ misfits (10 ∷ 0 ∷ 10 ∷ 0 ∷ []) (chars (97 ∷ 98 ∷ 97 ∷ []))
    -- 12
    ∷ runs (take 26 find) 32 field1 10 6 0 26 field1
    ∷ runs (set find 17 5) 32 field1 10 6 0 16 field1
    ∷ runs find 32 (4 ∷ 7 ∷ []) 10 7 0 1 (4 ∷ 7 ∷ [])
    ∷ runs find 32 (4 ∷ []) 10 7 0 1 (4 ∷ [])
    ∷ runs find 32 (6 ∷ 1 ∷ []) 10 7 0 0 (6 ∷ 1 ∷ [])
    ∷ []

pub worked : T (every cases)
unfolding find tri field1 field6 chars plus cases every right
    body cut join size same among is_symbol is_variable
    span stands ends_side paired under_limit on_right tests first_failing fault part_after opens_after sided count_after variables_after state_after may_end first_bad bad_program bad_field
    free bind keep seek put given role token past fronts push push_all exact symbols second fresh known first_of
    machine before behind holds onto pieces shift innermost leading function apply fit_in replace call step_at step run longest sizes closing
worked = tt
