-- The three demands, in the user's words, and what the machine's worth rests on besides. The words are those of specs/ and of Words.
use mathlib.Core.Path.{◌≡◌, refl}
use mathlib.Core.Bool.{true, false, cond}
use mathlib.Core.Logic.{◌↔◌}
use mathlib.Core.Option.{Option, none, some}
use mathlib.Core.List.{List, ◌++◌, Memᴰ}
use Prim.Native.Nat.{ℕ, ◌+◌, ◌-◌, ◌≤◌}
use native.Mathlib.Omega.{arith}
use lib.ListN.{length, take, length-append, length-replicate}
use lib.Seq.{take_at}
use lib.Dec.{T}
use Rattle.meaning.specs.Elements.{Element, elements, join, size}
use Rattle.meaning.specs.Goodness.{bad_program, bad_field}
use Rattle.meaning.specs.Matching.{Assignment, Fits, First, Env, free, seek, given}
use Rattle.meaning.specs.Machine.{holds, nothing, lead, leading, function, apply, Step, onward, step, Answer, answer, sizes, machine}
use Rattle.meaning.specs.Desk.{fresh_desk, noted, desk_calls}
use Rattle.meaning.proofs.Words.{Innermost, Leads, NoneLeads, Tried, StepIs, zeros, Accepted, Lawful, bad_sizes, bad_program_lem, bad_field_lem, ran, LeftAs, leaves, ListedIn}
use Rattle.meaning.proofs.Truth.{never, is_none, is_some, see_o}
use Rattle.meaning.proofs.Searching.{found, lost, only_one}
use Rattle.meaning.proofs.Leading.{leading_leads, leading_none, leading_balanced, leading-call}
use Rattle.meaning.proofs.Programs.{program_functions}
use Rattle.meaning.proofs.Steps.{tried, tried_only, step_is, only_step, function-sentences, step_good, field_is_good, good_accepted}
use Rattle.meaning.proofs.Answers.{lawful, only_lawful, ends_code, ends_room}
use Rattle.meaning.proofs.Around.{spent, stops}
use Rattle.meaning.proofs.Calls.{desk_law}
use Rattle.meaning.proofs.Cases.{every, cases, worked}

-- DEMAND 1. "Hand the machine any program bytes, any expression, any sizes and any budget, and it returns one of the answers the papers list for it
-- ... Each answer fixes every byte of the expression buffer and the scratch buffer."

listed : (p f : List ℕ) (used : ℕ) (s : List ℕ) (budget : ℕ) {a : Answer} → Lawful p f used s budget a → ListedIn f s budget a
listed p f used s budget (bad_sizes h) = record { code = omega arith; steps = omega arith; field = refl; scratch = refl }
listed p f used s budget (bad_program_lem h i) = record { code = omega arith; steps = omega arith; field = refl; scratch = length-replicate (length s) 0 }
listed p f used s budget (bad_field_lem h i j) = record { code = omega arith; steps = omega arith; field = refl; scratch = length-replicate (length s) 0 }
listed p f used s budget (ran {X} r e) =
    let (c, k) = ends_code e in
    let l = ends_room p f used s X r e in
    record { code = omega arith; steps = k; field = full _ l; scratch = length-replicate (length s) 0 }
  where
    full : (Y : List Element) → size Y ≤ length f → length (join Y ++ zeros (length f - size Y)) ≡ length f
    full Y l = unfold size in simp (length-append, length-replicate) (omega arith)

-- the machine's answer is in the table of the eight answers, and is the only one that is
pub demand_1 : (p f : List ℕ) (used : ℕ) (s : List ℕ) (budget : ℕ) → Lawful p f used s budget (machine p f used s budget) × ListedIn f s budget (machine p f used s budget)
demand_1 p f used s budget =
    let (a, l) = lawful p f used s budget in
    let e = only_lawful p f used s budget l in
    rw e (l, listed p f used s budget l)

pub demand_1_only : (p f : List ℕ) (used : ℕ) (s : List ℕ) (budget : ℕ) {a : Answer} → Lawful p f used s budget a → machine p f used s budget ≡ a
demand_1_only p f used s budget l = only_lawful p f used s budget l

-- DEMAND 2. "Each step is the step of Turchin's Refal-5 manual. A left side fails exactly if no assignment to its variables makes it equal the
-- argument. Otherwise the assignment used is the one whose leftmost e-variable is shortest, then the next, and so on."

-- a left side fails exactly if no assignment fits
pub demand_2_fails : (side arg : List Element) → (seek side arg free ≡ none) ↔ ((a : Assignment) → Fits a side arg → ⊥)
demand_2_fails side arg = (lost side arg, none_found)
  where
    none_found : ((a : Assignment) → Fits a side arg → ⊥) → seek side arg free ≡ none
    none_found f = elim (see_o (seek side arg free)) [ is_none h ↦ h | is_some env h ↦ absurd (f (given env) (found side arg env h).fits) ]

-- otherwise the one used is first
pub demand_2_first : (side arg : List Element) (env : Env) → seek side arg free ≡ some env → First (given env) side arg
demand_2_first = found

-- "At most one assignment is first": it fixes the value of every variable of the left side
pub demand_2_one : (a b : Assignment) (side arg : List Element) → First a side arg → First b side arg → (p : Element) → Memᴰ p side → a p ≡ b p
demand_2_one = only_one

-- "Its function's sentences are tried in order. The first that fits replaces the whole term by its right side with values put in"
pub demand_2_tried : (x : List Element) (ss : List (List Element)) → Tried x ss (apply ss x)
demand_2_tried = tried

-- and no other right side comes of it, if the program is good
pub demand_2_only : (p name : List ℕ) (x : List Element) {ss : List (List Element)} {o : Option (List Element)} → bad_program p ≡ none
    → function name (elements p) ≡ some ss → Tried x ss o → apply ss x ≡ o
demand_2_only p name x h f t = tried_only x (function-sentences name (program_functions p h) f) t

-- "The leading term is the leftmost < ... > that holds no other <"
pub demand_2_leading : (es a : List Element) (c : Element) (x b : List Element) → (leading es ≡ lead a c x b) ↔ Leads es a c x b
demand_2_leading = leading_leads

pub demand_2_none_leads : (es : List Element) → (leading es ≡ nothing) ↔ NoneLeads es
demand_2_none_leads = leading_none

module _ (f : List ℕ) (good : bad_field f ≡ none) where
  -- in a good field it is the < ... > with no < and no > in it and no > before it
  pub demand_2_leading_good : (a : List Element) (c : Element) (x b : List Element)
      → (leading (elements f) ≡ lead a c x b) ↔ (Innermost (elements f) a c x b × (holds 7 a ≡ false))
  demand_2_leading_good a c x b = leading_balanced (elements f) a c x b (field_is_good f good).balanced

  -- and there is none exactly if there is no <
  pub demand_2_no_call : (leading (elements f) ≡ nothing) ↔ (holds 6 (elements f) ≡ false)
  demand_2_no_call = leading-call (elements f) (field_is_good f good).balanced

-- the step by its cases: the leading term, its function, the sentences tried, room for the new field
pub demand_2 : (program : List Element) (room : ℕ) (es : List Element) → StepIs program room es (step program room es)
demand_2 = step_is

-- and no other step, if the program is good: in a bad one a right-side variable may be "absent from the left", which leaves its value open
pub demand_2_step_only : (p : List ℕ) (room : ℕ) (es : List Element) {s : Step} → bad_program p ≡ none → StepIs (elements p) room es s → step (elements p) room es ≡ s
demand_2_step_only p room es h i = only_step (program_functions p h) i

-- DEMAND 3. "A view expands the same inside another as it does alone."

module _ (p A X B fX sX f s : List ℕ)
    -- "Take a good field cut between elements into A, X and B, where X is itself a good field and no call ends in A"
    (good : bad_field (A ++ (X ++ B)) ≡ none) (goodX : bad_field X ≡ none)
    (between : elements (A ++ (X ++ B)) ≡ elements A ++ (elements X ++ elements B))
    (no_end : holds 7 (elements A) ≡ false)
    -- "both runs have the same program and sizes in order"
    (sized : sizes p f (length (A ++ (X ++ B))) s ≡ true) (sizedX : sizes p fX (length X) sX ≡ true)
    -- "X alone, in a buffer shorter by the lengths of A and B"
    (holds-all : take (length (A ++ (X ++ B))) f ≡ A ++ (X ++ B)) (holds-X : take (length X) fX ≡ X)
    (shorter : length f ≡ length A + length fX + length B)
    -- "If X alone ... is left as X' after n steps": X' is `take v g`
    (budget c n v place : ℕ) (g t : List ℕ) (alone : machine p fX (length X) sX budget ≡ answer c n v place g t) where
  module _ (program : bad_program p ≡ none) where
    alone_x : Accepted p fX (length X) sX X
    alone_x = record { fit = sizedX; program = program; is = holds-X; good = goodX }

    inside : Accepted p f (length (A ++ (X ++ B))) s (A ++ (X ++ B))
    inside = record { fit = sized; program = program; is = holds-all; good = good }

    -- a good program: the code, and every byte
    pub demand_3_good : machine p f (length (A ++ (X ++ B))) s n
        ≡ leaves A (take v g) B (length f) (length s) (cond (holds 6 (elements (A ++ (take v g ++ B)))) 1 0) n 0
    demand_3_good = spent p A X B fX sX f s alone_x inside shorter between no_end budget c n v place g t alone

  -- a bad program: both runs end with code 6 after 0 steps, at the same place
  pub demand_3_bad : (i : ℕ) → bad_program p ≡ some i → (k : ℕ)
      → (machine p fX (length X) sX budget ≡ answer 6 0 (length X) i fX (zeros (length sX)))
      × (machine p f (length (A ++ (X ++ B))) s k ≡ answer 6 0 (length (A ++ (X ++ B))) i f (zeros (length s)))
  demand_3_bad i h k = (only_lawful p fX (length X) sX budget (bad_program_lem sizedX h), only_lawful p f (length (A ++ (X ++ B))) s k (bad_program_lem sized h))

  -- "then A X B in the full buffer, with budget n, is left as A X' B after n steps"
  pub demand_3 : LeftAs (A ++ (take v g ++ B)) n (machine p f (length (A ++ (X ++ B))) s n)
  demand_3 =
      elim (see_o (bad_program p)) [
        | is_none h ↦ rw (demand_3_good h) (refl, refl, take_at (A ++ (take v g ++ B)) _ _ refl)
        | is_some i h ↦
            let (e, w) = demand_3_bad i h n in
            let en : n ≡ 0 = cc in
            let ev : v ≡ length X = cc in let eg : g ≡ fX = cc in
            let ex : take v g ≡ X = rw (ev, eg) holds-X in
            rw (w, en, ex) (refl, refl, holds-all)
      ]

  -- "If X stopped for want of a sentence, a function or room, the whole given X's budget stops after the same n steps for the same cause, its place
  -- later by A's length": codes 2, 3 and 4
  pub demand_3_stops : 2 ≤ c → c ≤ 4 → machine p f (length (A ++ (X ++ B))) s budget ≡ leaves A (take v g) B (length f) (length s) c n (length A + place)
  demand_3_stops l u =
      elim (see_o (bad_program p)) [
        | is_none h ↦ stops p A X B fX sX f s (alone_x h) (inside h) shorter between no_end budget c n v place g t alone l
        | is_some i h ↦ never (let e : c ≡ 6 = cc (demand_3_bad i h n).0 in omega arith)
      ]

-- BESIDES

-- after a step of a good program on a good field the whole field is good again, so it is accepted again
pub good_stays_good : (p f : List ℕ) (room : ℕ) (es : List Element) → bad_program p ≡ none → bad_field f ≡ none
    → step (elements p) room (elements f) ≡ onward es → bad_field (join es) ≡ none
good_stays_good p f room es hp hf h = good_accepted es (step_good (elements p) room (elements f) es (program_functions p hp) (field_is_good f hf) h)

-- "From a fresh record, for k from 1 to 2^32 - 1, ... k calls leave what one run with budget k leaves"
pub k_desk_calls : (p f : List ℕ) (used : ℕ) (s : List ℕ) (k : ℕ) → 1 ≤ k → desk_calls p k (fresh_desk used f s) ≡ noted (machine p f used s k)
k_desk_calls = desk_law

-- the twelve worked cases
pub twelve_cases : T (every cases)
twelve_cases = worked
