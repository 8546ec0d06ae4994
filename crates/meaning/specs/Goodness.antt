-- Good programs and good fields, by the first bad element and its place (document 01, 'Field', 'Program', 'The bad element').
use Rattle.std.specs.Prelude.{Bool, true, false, ◌&&◌, ◌||◌, not, cond, List, [], ◌∷◌, ◌++◌, ℕ, suc, ◌+◌, length, get_or, eqb, leb, ltb}
use Rattle.std.proofs.Math.Option.{Option, none, some}
use Rattle.meaning.specs.Elements.{Element, kind, body, among, is_variable, elements}

-- where reading stands: in a field; outside every function; behind a header; in a left side; in a right side; behind a sentence; behind 0F
pub data Part : Type 0 where
  field outside start left right after ended : Part

-- "given those before it": the part; the open brackets, the latest first; the elements of this side so far; the different variables of the left side
pub data State : Type 0 where
  at : Part → List ℕ → ℕ → List Element → State

-- k is one of the kinds a to b
unfoldable pub span : ℕ → ℕ → ℕ → Bool
span a b k = leb a k && leb k b

-- what can "stand there": "Kinds 01 to 07 only"; "A left side has kinds 01 to 05 and 08 to 0A; a right side has kinds 01 to 0A"; the rest by the form of a program
unfoldable pub stands : Part → ℕ → Bool
stands field k = span 1 7 k
stands outside k = eqb k 13 || eqb k 15
stands start k = span 1 5 k || span 8 11 k
stands left k = span 1 5 k || span 8 11 k
stands right k = span 1 10 k || eqb k 12
stands after k = span 1 5 k || span 8 11 k || eqb k 14
stands ended k = false

-- no bracket is open
abbrev pub empty : List ℕ → Bool
empty [] = true
empty (b ∷ bs) = false

-- "the latest open bracket"
abbrev pub top : List ℕ → ℕ
top [] = 0
top (b ∷ bs) = b

-- the brackets that stay open when it is closed
abbrev pub below : List ℕ → List ℕ
below [] = []
below (b ∷ bs) = bs

-- a test that is made only where another holds
abbrev pub implies : Bool → Bool → Bool
implies true b = b
implies false b = true

-- "A sentence is a left side, 0B, a right side, 0C": these two end a side
unfoldable pub ends_side : ℕ → Bool
ends_side k = eqb k 11 || eqb k 12

-- "Each 05 closes the latest open bracket, which must be a 04; each 07 closes a 06"; not "0B or 0C comes with a bracket open"
unfoldable pub paired : ℕ → List ℕ → Bool
paired k opens = implies (eqb k 5) (eqb (top opens) 4) && (implies (eqb k 7) (eqb (top opens) 6) && implies (ends_side k) (empty opens))

-- another may come after n: 100 "of a left side" (its first comes behind a header or a sentence), 400 "of a right side"
unfoldable pub under_limit : Part → ℕ → Bool
under_limit field n = true
under_limit outside n = ltb n 100
under_limit start n = ltb n 100
under_limit left n = ltb n 100
under_limit right n = ltb n 400
under_limit after n = ltb n 100
under_limit ended n = ltb n 100

-- in a right side: its variables are looked for on the left, and are not counted
unfoldable pub on_right : Part → Bool
on_right field = false
on_right outside = false
on_right start = false
on_right left = false
on_right right = true
on_right after = false
on_right ended = false

-- "An element is bad, given those before it, if" one of these is false
unfoldable pub tests : State → Element → List Bool
tests (at p opens n vs) e =
    -- 1 "its kind is unknown"
    span 1 15 (kind e)
    -- 2 "its body is cut short"
    ∷ eqb (length e) (suc (body (kind e)))
    -- 3 its kind "cannot stand there"; nothing can after 0F
    ∷ stands p (kind e)
    -- 4 "a variable number exceeds 15"
    ∷ implies (is_variable e) (leb (get_or e 1 0) 15)
    -- 5 "a closing bracket has no fitting open one; 0B or 0C comes with a bracket open"
    ∷ paired (kind e) opens
    -- 6 "the 101st element of a left side, the 401st of a right side (brackets count, 0B and 0C do not), or a 17th different variable"
    ∷ ((ends_side (kind e) || under_limit p n) && implies (is_variable e) (on_right p || (among e vs || ltb (length vs) 16)))
    -- 7 "a right-side variable absent from the left"
    ∷ implies (is_variable e) (not (on_right p) || among e vs)
    ∷ []

-- the number of the first that is false, counted from r; 0 if none is
unfoldable pub first_failing : ℕ → List Bool → ℕ
first_failing r [] = 0
first_failing r (b ∷ bs) = elim b [ true ↦ first_failing (suc r) bs | false ↦ r ]

-- why e is bad; 0 if it is not
unfoldable pub fault : State → Element → ℕ
fault s e = first_failing 1 (tests s e)

-- the part to which an element of kind k leads: "Functions, or none, then 0F"; "A function is 0D, one or more sentences, 0E"
unfoldable pub part_after : Part → ℕ → Part
part_after field k = field
part_after outside k = cond (eqb k 13) start ended
part_after start k = cond (eqb k 11) right left
part_after left k = cond (eqb k 11) right left
part_after right k = cond (eqb k 12) after right
part_after after k = cond (eqb k 11) right (cond (eqb k 14) outside left)
part_after ended k = ended

-- the open brackets after an element of kind k: 04 and 06 open one, 05 and 07 close the latest
unfoldable pub opens_after : ℕ → List ℕ → List ℕ
opens_after k opens = cond (eqb k 4 || eqb k 6) (k ∷ opens) (cond (eqb k 5 || eqb k 7) (below opens) opens)

-- elements are counted in a field, a left side, a right side
unfoldable pub sided : Part → Bool
sided field = true
sided outside = false
sided start = false
sided left = true
sided right = true
sided after = false
sided ended = false

-- the elements so far of the part q, to which an element of kind k led: "brackets count, 0B and 0C do not"
unfoldable pub count_after : Part → ℕ → ℕ → ℕ
count_after q k n = cond (ends_side k || not (sided q)) 0 (suc n)

-- the different variables of the left side, known on its right side too; e led to the part q
unfoldable pub variables_after : Part → Element → List Element → List Element
variables_after field e vs = []
variables_after outside e vs = []
variables_after start e vs = []
variables_after left e vs = cond (is_variable e && not (among e vs)) (vs ++ (e ∷ [])) vs
variables_after right e vs = vs
variables_after after e vs = []
variables_after ended e vs = []

-- where reading stands behind e
unfoldable pub state_after : State → Element → State
state_after (at p opens n vs) e =
    at
    (part_after p (kind e))
    (opens_after (kind e) opens)
    (count_after (part_after p (kind e)) (kind e) n)
    (variables_after (part_after p (kind e)) e vs)

-- the bytes may end here: behind 0F, or in a field with no bracket open; else they "end early (no 0F, or an open bracket in a field)"
unfoldable pub may_end : State → Bool
may_end (at field opens n vs) = empty opens
may_end (at outside opens n vs) = false
may_end (at start opens n vs) = false
may_end (at left opens n vs) = false
may_end (at right opens n vs) = false
may_end (at after opens n vs) = false
may_end (at ended opens n vs) = true

-- "The place is the first bad element's offset. If none is bad but the bytes end early ..., the place is the length"
unfoldable pub first_bad : State → ℕ → List Element → Option ℕ
first_bad s i [] = cond (may_end s) none (some i)
first_bad s i (e ∷ es) = cond (eqb (fault s e) 0) (first_bad (state_after s e) (i + length e) es) (some i)

-- "Program": read from the start, outside every function; none, or the place
unfoldable pub bad_program : List ℕ → Option ℕ
bad_program p = first_bad (at outside [] 0 []) 0 (elements p)

-- "Field": read from the start, with no bracket open; none, or the place
unfoldable pub bad_field : List ℕ → Option ℕ
bad_field f = first_bad (at field [] 0 []) 0 (elements f)
