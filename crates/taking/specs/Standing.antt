-- What the check's state by value stands for, and one step of the check.
use Rattle.std.specs.Prelude.{◌≡◌, Bool, true, false, ◌&&◌, ◌||◌, not, cond, List, [], ◌∷◌, ℕ, suc, ◌+◌, ◌-◌, ◌^◌, ◌≤◌, ◌<◌, length, set, eqb, leb, ltb, Option, Some, None, Result, Ok, Err, IsOk, IsErr}
use Rattle.meaning.specs.Elements.{Element, kind, body, among}
use Rattle.meaning.specs.Goodness.{Part, field, outside, start, left, right, after, ended, State as Stage, at, span, stands, implies, ends_side, paired, under_limit, on_right, fault, part_after, sided, count_after, state_after}
use Rattle.kinds.specs.Slots.{slot_of, within, joined}
use Rattle.kinds.specs.Stacks.{stack}
use Rattle.taking.specs.declared.State.{State}
use Rattle.taking.specs.declared.Fault.{Fault}
use Rattle.taking.specs.declared.Fault.TheVariants.{Misplaced, NumberTooHigh, Unpaired, TooMany, Unknown}

-- the parts by their place in the definition
abbrev pub number_of : Part → ℕ
number_of field = 0
number_of outside = 1
number_of start = 2
number_of left = 3
number_of right = 4
number_of after = 5
number_of ended = 6

unfoldable pub part_of : ℕ → Part
part_of n =
    cond (eqb n 0) field (cond (eqb n 1) outside (cond (eqb n 2) start (cond (eqb n 3) left
    (cond (eqb n 4) right (cond (eqb n 5) after ended)))))

-- the part to which an element of kind k leads, if it can stand
unfoldable pub next_of : Part → ℕ → Option ℕ
next_of p k = cond (stands p k) (Some (number_of (part_after p k))) None

-- the number of the test that an error names, and of the first that failed; 0 if none did
abbrev pub test_of : Fault → ℕ
test_of Misplaced = 3
test_of NumberTooHigh = 4
test_of Unpaired = 5
test_of TooMany = 6
test_of Unknown = 7

abbrev pub fault_of : {A : Type 0} → Result A Fault → ℕ
fault_of (Ok x) = 0
fault_of (Err e) = test_of e

-- the stack, and how many are open, after an element of kind k
unfoldable pub stack_after : ℕ → ℕ → List ℕ → List ℕ
stack_after k d st = cond (eqb k 4 || eqb k 6) (set st d k) st

unfoldable pub depth_after : ℕ → ℕ → ℕ
depth_after k d = cond (eqb k 4 || eqb k 6) (d + 1) (cond (eqb k 5 || eqb k 7) (d - 1) d)

-- how long a stack has to be: n where a field may have n elements, 400 in a program
abbrev pub needed : ℕ → ℕ → ℕ
needed part n = cond (eqb part 0) n 400

-- a variable whose slot is not in the set
unfoldable pub fresh : ℕ → ℕ → ℕ → Bool
fresh slots k v = span 8 10 k && (leb v 15 && not (within slots (slot_of k v)))

-- the tests of the definition by what the code has at hand: the last two, and those from the third on
unfoldable pub limits_of : State → ℕ → Bool → List Bool
limits_of q k new =
    ((ends_side k || under_limit (part_of q.part) q.count) && implies new (on_right (part_of q.part) || ltb q.number 16))
    ∷ implies new (not (on_right (part_of q.part)))
    ∷ []

unfoldable pub tests_of : State → ℕ → ℕ → List ℕ → Bool → List Bool
tests_of q k v opens new =
    stands (part_of q.part) k ∷ implies (span 8 10 k) (leb v 15) ∷ paired k opens ∷ limits_of q k new

-- the numbers of the state after an element that passed fit their types
abbrev pub Movable : State → ℕ → ℕ → Bool → Type 0
Movable q k v new = (ends_side k ≡ false → q.count + 1 < 2 ^ 64) × (new ≡ true → (8 ≤ k) × (k ≤ 10) × (v ≤ 15) × (q.number < 16))

-- that state, with d brackets open; only a side of a sentence keeps the variables
unfoldable pub moved_to : State → ℕ → ℕ → ℕ → ℕ → Bool → State
moved_to q k v to d new =
    record {
      part = to;
      depth = d;
      count = count_after (part_of to) k q.count;
      set = record { bits = cond (span 3 4 to) (cond new (joined q.set.bits (slot_of k v)) q.set.bits) 0 };
      number = cond (span 3 4 to) (cond new (q.number + 1) q.number) 0;
    }

-- a set of slots, and their number, stand for the variables vs
pub record Holds (slots number : ℕ) (vs : List Element) : Type 0 where
  pub small : slots < 2 ^ 48
  pub counted : number ≡ length vs
  pub marked : (k v : ℕ) → 8 ≤ k → k ≤ 10 → v ≤ 15 → within slots (slot_of k v) ≡ among (k ∷ v ∷ []) vs

-- the state q and its stack stand for the state s of the definition
pub record Means (q : State) (st : List ℕ) (s : Stage) : Type 0 where
  pub vs : List Element
  pub is : s ≡ at (part_of q.part) (stack q.depth st) q.count vs
  pub holds : Holds q.set.bits q.number vs
  pub part : q.part < 7
  -- each open bracket is an element of the side, so none is open outside of sides
  pub deep : q.depth ≤ cond (sided (part_of q.part)) q.count 0
  pub inside : q.depth ≤ length st
  pub few : q.number ≤ 16

-- the state stands for one, and the stack has room for an element more
pub record Ready (q : State) (st : List ℕ) : Type 0 where
  pub stage : Stage
  pub means : Means q st stage
  pub room : needed q.part (q.count + 1) ≤ length st

-- kind k and number v tell what is asked of the element x, which is whole
pub record Tells (k v : ℕ) (x : Element) : Type 0 where
  pub kind_is : kind x ≡ k
  pub known : span 1 15 k ≡ true
  pub whole_is : length x ≡ suc (body k)
  pub pair : span 8 10 k ≡ true → x ≡ k ∷ v ∷ []

-- a step of the check is a step of the definition
pub record Steps (q : State) (k v : ℕ) (st : List ℕ) (r : Result State Fault) (st' : List ℕ) : Type 0 where
  pub fault_is : {s : Stage} {x : Element} → Means q st s → Tells k v x → fault_of r ≡ fault s x
  pub next_is : {s : Stage} {x : Element} {q' : State} → Means q st s → Tells k v x → r ≡ Ok q' → Means q' st' (state_after s x)
  pub stack_is : IsOk r → st' ≡ stack_after k q.depth st
  pub kept : IsErr r → st' ≡ st
