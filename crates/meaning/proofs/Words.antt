-- The words in which Demands speaks, beside those of specs/: the leading term, a step, steps in a row, the end of a run, the table of the answers.
use mathlib.Core.Path.{◌≡◌}
use mathlib.Core.Bool.{true, false}
use mathlib.Core.Option.{Option, none, some}
use mathlib.Core.List.{List, [], ◌∷◌, ◌++◌, tail}
use Prim.Native.Nat.{ℕ, suc, ◌-◌, ◌≤◌, ◌<◌}
use lib.ListN.{length, take, replicate}
use Rattle.meaning.specs.Elements.{Element, kind, elements, join, size}
use Rattle.meaning.specs.Goodness.{bad_program, bad_field}
use Rattle.meaning.specs.Matching.{plain, role, Assignment, put, Fits, First}
use Rattle.meaning.specs.Machine.{before, behind, holds, function, Step, idle, stuck, onward, step, Answer, answer, sizes}

-- a "< ... > that holds no other <": the field es is a, the < c, x, its >, b; as x holds no <, its > is the first behind it
pub record Innermost (es a : List Element) (c : Element) (x b : List Element) : Type 0 where
  pub last : Element
  pub split : es ≡ a ++ (c ∷ (x ++ (last ∷ b)))
  pub first_6 : kind c ≡ 6
  pub last_7 : kind last ≡ 7
  pub no_6 : holds 6 x ≡ false
  pub no_7 : holds 7 x ≡ false

-- "The leading term is the leftmost < ... > that holds no other <": none of these has less before it
pub record Leads (es a : List Element) (c : Element) (x b : List Element) : Type 0 where
  pub term : Innermost es a c x b
  pub leftmost : {a' : List Element} {c' : Element} {x' b' : List Element} → Innermost es a' c' x' b' → length a ≤ length a'

-- there is none: in a good field exactly if it has no < (`demand_2_no_call`)
abbrev pub NoneLeads : List Element → Type 0
NoneLeads es = (a : List Element) (c : Element) (x b : List Element) → Innermost es a c x b → ⊥

-- sentences tried in order on the argument x, with the right side that comes of it
pub data Tried (x : List Element) : List (List Element) → Option (List Element) → Type 0 where
  none_left : Tried x [] none
  not_this : {s : List Element} {ss : List (List Element)} {o : Option (List Element)} → ((a : Assignment) → Fits a (before 11 s) x → ⊥) → Tried x ss o → Tried x (s ∷ ss) o
  this_one : {s : List Element} {ss : List (List Element)} {o : Option (List Element)} (a : Assignment) → First a (before 11 s) x
      → ((e : Element) → role e ≡ plain → a e ≡ e ∷ []) → o ≡ some (put a (behind 11 s)) → Tried x (s ∷ ss) o

-- a step: there is no call; the leading term's function is not there; none of its sentences fits; the new field has no room; or it is made
pub data StepIs (fs : List Element) (room : ℕ) (es : List Element) : Step → Type 0 where
  no_call : NoneLeads es → StepIs fs room es idle
  no_function : {place k : ℕ} {a : List Element} {c : Element} {x b : List Element}
      → Leads es a c x b → function (tail c) fs ≡ none → k ≡ 3 → place ≡ size a → StepIs fs room es (stuck k place)
  no_match : {place k : ℕ} {a : List Element} {c : Element} {x b : List Element} {ss : List (List Element)}
      → Leads es a c x b → function (tail c) fs ≡ some ss → Tried x ss none → k ≡ 2 → place ≡ size a → StepIs fs room es (stuck k place)
  no_room : {place k : ℕ} {a : List Element} {c : Element} {x b r : List Element} {ss : List (List Element)}
      → Leads es a c x b → function (tail c) fs ≡ some ss → Tried x ss (some r) → room < size (a ++ (r ++ b)) → k ≡ 4 → place ≡ size a
      → StepIs fs room es (stuck k place)
  goes : {a : List Element} {c : Element} {x b r : List Element} {ss : List (List Element)} {es' : List Element}
      → Leads es a c x b → function (tail c) fs ≡ some ss → Tried x ss (some r) → size es' ≤ room → es' ≡ a ++ (r ++ b) → StepIs fs room es (onward es')

-- exactly n steps lead from X to Y
pub data Reaches (fs : List Element) (room : ℕ) : ℕ → List Element → List Element → Type 0 where
  stay : {X : List Element} → Reaches fs room 0 X X
  go : {n : ℕ} {X Y Z : List Element} → step fs room X ≡ onward Y → Reaches fs room n Y Z → Reaches fs room (suc n) X Z

-- from X with a budget: the code, the steps, the place, the field that is left
pub data Ends (fs : List Element) (room budget : ℕ) (X : List Element) (c k place : ℕ) (Y : List Element) : Type 0 where
  done : Reaches fs room k X Y → k ≤ budget → holds 6 Y ≡ false → c ≡ 0 → place ≡ 0 → Ends fs room budget X c k place Y
  paused : Reaches fs room k X Y → k ≡ budget → holds 6 Y ≡ true → c ≡ 1 → place ≡ 0 → Ends fs room budget X c k place Y
  stopped : Reaches fs room k X Y → k < budget → step fs room Y ≡ stuck c place → Ends fs room budget X c k place Y

abbrev pub zeros : ℕ → List ℕ
zeros n = replicate n 0

-- a call that is not refused: sizes in order, a good program, a good field X
pub record Accepted (p f : List ℕ) (used : ℕ) (s X : List ℕ) : Type 0 where
  pub fit : sizes p f used s ≡ true
  pub program : bad_program p ≡ none
  pub is : take used f ≡ X
  pub good : bad_field X ≡ none

-- the table of the eight answers
pub data Lawful (p f : List ℕ) (used : ℕ) (s : List ℕ) (budget : ℕ) : Answer → Type 0 where
  bad_sizes : sizes p f used s ≡ false → Lawful p f used s budget (answer 5 0 used 0 f s)
  bad_program_lem : {place : ℕ} → sizes p f used s ≡ true → bad_program p ≡ some place
      → Lawful p f used s budget (answer 6 0 used place f (zeros (length s)))
  bad_field_lem : {place : ℕ} → sizes p f used s ≡ true → bad_program p ≡ none → bad_field (take used f) ≡ some place
      → Lawful p f used s budget (answer 7 0 used place f (zeros (length s)))
  ran : {X : List ℕ} {c k place : ℕ} {Y : List Element} → Accepted p f used s X → Ends (elements p) (length f) budget (elements X) c k place Y
      → Lawful p f used s budget (answer c k (size Y) place (join Y ++ zeros (length f - size Y)) (zeros (length s)))

-- the answer leaves the field Y after n steps
abbrev pub LeftAs : List ℕ → ℕ → Answer → Type 0
LeftAs Y n (answer c k v place g t) = (k ≡ n) × (v ≡ length Y) × (take v g ≡ Y)

-- the answer that leaves A x B in a buffer of n bytes
abbrev pub leaves : List ℕ → List ℕ → List ℕ → ℕ → ℕ → ℕ → ℕ → ℕ → Answer
leaves A x B n m c k place = answer c k (length (A ++ (x ++ B))) place ((A ++ (x ++ B)) ++ zeros (n - length (A ++ (x ++ B)))) (zeros m)

-- one of the eight codes, no more steps than the budget, and buffers of the lengths that were lent
pub record Listed (f s : List ℕ) (budget c k : ℕ) (g t : List ℕ) : Type 0 where
  pub code : c < 8
  pub steps : k ≤ budget
  pub field : length g ≡ length f
  pub scratch : length t ≡ length s

abbrev pub ListedIn : List ℕ → List ℕ → ℕ → Answer → Type 0
ListedIn f s budget (answer c k v place g t) = Listed f s budget c k g t
