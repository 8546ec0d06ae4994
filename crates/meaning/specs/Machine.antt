-- The leading term, the step, the run and its eight answers (document 01, 'Matching and the step', 'The eight answers').
use Rattle.std.specs.Prelude.{Bool, true, false, ◌&&◌, ◌||◌, not, ℕ, zero, suc, ◌-◌, length, take, replicate, leb}
use Rattle.std.proofs.Math.Option.{Option, none, some}
use mathlib.Core.List.{List, [], ◌∷◌, ◌++◌, tail}
use Rattle.meaning.specs.Elements.{Element, join, size, elements, is_kind, same}
use Rattle.meaning.specs.Goodness.{bad_program, bad_field}
use Rattle.meaning.specs.Matching.{free, seek, put, given}

-- the elements before the first of kind k: a left side is what stands before 0B, an argument what stands before its >
unfoldable pub before : ℕ → List Element → List Element
before k [] = []
before k (e ∷ es) = elim (is_kind k e) [ true ↦ [] | false ↦ e ∷ before k es ]

-- the elements behind the first of kind k: a right side is what stands behind 0B
unfoldable pub behind : ℕ → List Element → List Element
behind k [] = []
behind k (e ∷ es) = elim (is_kind k e) [ true ↦ es | false ↦ behind k es ]

-- an element of kind k is among them: "a < remains"
unfoldable pub holds : ℕ → List Element → Bool
holds k [] = false
holds k (e ∷ es) = is_kind k e || holds k es

-- e goes onto the front of the first piece; what nothing ends is no piece
unfoldable pub onto : Element → List (List Element) → List (List Element)
onto e [] = []
onto e (p ∷ ps) = (e ∷ p) ∷ ps

-- the pieces that an element of kind k ends: a function's sentences, which 0C ends
unfoldable pub pieces : ℕ → List Element → List (List Element)
pieces k [] = []
pieces k (e ∷ es) = elim (is_kind k e) [ true ↦ [] ∷ pieces k es | false ↦ onto e (pieces k es) ]

-- the leading term: what stands before it, its <, its argument, what stands behind it
pub data Lead : Type 0 where
  nothing : Lead
  lead : List Element → Element → List Element → List Element → Lead

-- one element more stands before it
unfoldable pub shift : Element → Lead → Lead
shift e nothing = nothing
shift e (lead a c x b) = lead (e ∷ a) c x b

-- a < before es has its > there, and "holds no other <"
unfoldable pub innermost : List Element → Bool
innermost es = holds 7 es && not (holds 6 (before 7 es))

-- "The leading term is the leftmost < ... > that holds no other <"
unfoldable pub leading : List Element → Lead
leading [] = nothing
leading (e ∷ es) =
    elim (is_kind 6 e && innermost es)
    [ true ↦ lead [] e (before 7 es) (behind 7 es) | false ↦ shift e (leading es) ]

-- the sentences of the function with that name. "Where two functions have one name, the earlier is used"
unfoldable pub function : List ℕ → List Element → Option (List (List Element))
function name [] = none
function name (e ∷ es) = elim (same e (13 ∷ name)) [ true ↦ some (pieces 12 (before 14 es)) | false ↦ function name es ]

-- "Its function's sentences are tried in order. The first that fits": its "right side with values put in"
unfoldable pub apply : List (List Element) → List Element → Option (List Element)
apply [] x = none
apply (s ∷ ss) x =
    elim (seek (before 11 s) x free) [ none ↦ apply ss x | some env ↦ some (put (given env) (behind 11 s)) ]

-- one step: there is no leading term; it cannot be carried out, with code and place; or the new field
pub data Step : Type 0 where
  idle : Step
  stuck : ℕ → ℕ → Step
  onward : List Element → Step

-- code 4: "the new field would exceed the field buffer"
unfoldable pub fit_in : ℕ → ℕ → List Element → Step
fit_in room place es = elim (leb (size es) room) [ true ↦ onward es | false ↦ stuck 4 place ]

-- code 2: "no sentence of the function fits"; else the right side "replaces the whole term", and "Nothing else in the field moves"
unfoldable pub replace : ℕ → List Element → List Element → Option (List Element) → Step
replace room a b none = stuck 2 (size a)
replace room a b (some r) = fit_in room (size a) (a ++ r ++ b)

-- code 3: "the program has no such header"
unfoldable pub call : ℕ → List Element → List Element → List Element → Option (List (List Element)) → Step
call room a x b none = stuck 3 (size a)
call room a x b (some ss) = replace room a b (apply ss x)

-- the leading term's function is the one that its < names: "< with its function's name number"
unfoldable pub step_at : List Element → ℕ → Lead → Step
step_at program room nothing = idle
step_at program room (lead a c x b) = call room a x b (function (tail c) program)

-- the step of the field, in a buffer of that room
unfoldable pub step : List Element → ℕ → List Element → Step
step program room es = step_at program room (leading es)

-- what a run comes to: code, steps, place and the field's elements
pub data Result : Type 0 where
  result : ℕ → ℕ → ℕ → List Element → Result

-- n steps of the budget are left, k are carried out; "before each step 0, 1, 3, 2, 4"
unfoldable pub run : List Element → ℕ → ℕ → ℕ → List Element → Result
run program room zero k es = elim (holds 6 es) [ false ↦ result 0 k 0 es | true ↦ result 1 k 0 es ]
run program room (suc n) k es =
    elim (holds 6 es) [
      | false ↦ result 0 k 0 es
      | true ↦
          elim (step program room es)
          [ idle ↦ result 0 k 0 es | stuck c place ↦ result c k place es | onward es' ↦ run program room n (suc k) es' ]
    ]

-- "An answer is a code, the steps carried out, the used length and a place"; then every byte of the field buffer and of the scratch
pub data Answer : Type 0 where
  answer : ℕ → ℕ → ℕ → ℕ → List ℕ → List ℕ → Answer

-- no buffer may be "longer than 65,536 bytes"
unfoldable pub longest : ℕ
longest = 65536

-- none of "the program, field buffer or scratch is longer than 65,536 bytes; the used length exceeds the field buffer; or the scratch is shorter than the field buffer"
unfoldable pub sizes : List ℕ → List ℕ → ℕ → List ℕ → Bool
sizes program field used scratch =
    leb (length program) longest
    && leb (length field) longest
    && leb (length scratch) longest
    && leb used (length field)
    && leb (length field) (length scratch)

-- "Codes 0 to 4: the field buffer holds the field after the last whole step, and every byte from the used length on is zero"; the scratch is zero
unfoldable pub closing : List ℕ → List ℕ → Result → Answer
closing field scratch (result c k place es) =
    answer c k (size es) place (join es ++ replicate (length field - size es) 0) (replicate (length scratch) 0)

-- "in the order 5, 6, 7"; "Codes 5 to 7: steps 0, used length as given, the field buffer untouched. The scratch is all zero afterwards, save with code 5, which does not touch it"
unfoldable pub machine : List ℕ → List ℕ → ℕ → List ℕ → ℕ → Answer
machine program field used scratch budget =
    elim (sizes program field used scratch) [
      | false ↦ answer 5 0 used 0 field scratch
      | true ↦
          elim (bad_program program) [
            | some place ↦ answer 6 0 used place field (replicate (length scratch) 0)
            | none ↦
                elim (bad_field (take used field)) [
                  | some place ↦ answer 7 0 used place field (replicate (length scratch) 0)
                  | none ↦ closing field scratch (run (elements program) (length field) budget 0 (elements (take used field)))
                ]
          ]
    ]
