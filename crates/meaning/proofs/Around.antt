-- Demand 3: what happens to X alone happens to A X B.
use mathlib.Core.Path.{◌≡◌, refl, sym, ◌∙◌, ap}
use mathlib.Core.Bool.{false, cond}
use mathlib.Core.List.{List, [], ◌++◌}
use Prim.Native.Nat.{ℕ, ◌+◌, ◌-◌, ◌≤◌}
use native.Mathlib.Omega.{arith}
use lib.ListN.{length, take}
use lib.Seq.{take_at}
use Rattle.meaning.specs.Elements.{Element, elements, join, size}
use Rattle.meaning.specs.Machine.{holds, leading, idle, step, step_at, answer, machine}
use Rattle.meaning.proofs.Words.{Reaches, stay, go, Ends, done, paused, stopped, zeros, Accepted, leaves}
use Rattle.meaning.proofs.Truth.{never, is_true, is_false, see}
use Rattle.meaning.proofs.Cutting.{join-cut, join-append}
use Rattle.meaning.proofs.Moved.{moved, wide, step_moved}
use Rattle.meaning.proofs.Leading.{leading_closed, is_nothing, is_lead, see_l}
use Rattle.meaning.proofs.Balance.{fours, call_first}
use Rattle.meaning.proofs.Programs.{Functions, program_functions}
use Rattle.meaning.proofs.Steps.{Good, field_is_good, good_cut, step_good}
use Rattle.meaning.proofs.Runs.{reaches_good}
use Rattle.meaning.proofs.Answers.{machine_ends, accepted_ends, ends_reaches, size-elements}

module _ (fs : List Element) (room : ℕ) (A B : List Element) (ok : Functions fs) (no> : holds 7 A ≡ false) where
  -- a step of X that is not idle
  step_in : (X : List Element) → Good X → (step fs room X ≡ idle → ⊥) → step fs (wide room A B) (A ++ (X ++ B)) ≡ moved A B (step fs room X)
  unfolding fours
  step_in X g busy =
      elim (see_l (leading X)) [
        | is_nothing h ↦ absurd (busy (unfold step step_at in rw h))
        | is_lead a c x b h ↦ step_moved room A B fs X no> (call_first X 0 [] g.balanced (leading_closed X h)) h
      ]

  -- n steps of X are n steps of A X B
  pub reaches_around : {n : ℕ} {X Y : List Element} → Good X → Reaches fs room n X Y → Reaches fs (wide room A B) n (A ++ (X ++ B)) (A ++ (Y ++ B))
  unfolding moved
  reaches_around g stay = stay
  reaches_around g (go {X} {Y} s r) =
      go (step_in X g (λ q. never (cc)) ∙ ap (moved A B) s) (reaches_around (step_good fs room X Y ok g s) r)

  -- a budget of just these steps ends there
  pub spent_around : {n : ℕ} {X Y : List Element} → Good X → Reaches fs room n X Y
      → Ends fs (wide room A B) n (A ++ (X ++ B)) (cond (holds 6 (A ++ (Y ++ B))) 1 0) n 0 (A ++ (Y ++ B))
  spent_around {n} {X} {Y} g r =
      elim (see (holds 6 (A ++ (Y ++ B)))) [
        | is_true h ↦ rw h (paused (reaches_around g r) refl h refl refl)
        | is_false h ↦ rw h (done (reaches_around g r) (omega arith) h refl refl)
      ]

  -- want of a sentence, a function or room: the same cause, the place later by A's length
  pub stops_around : {budget : ℕ} {X : List Element} {c n place : ℕ} {Y : List Element} → 2 ≤ c → Good X → Ends fs room budget X c n place Y
      → Ends fs (wide room A B) budget (A ++ (X ++ B)) c n (size A + place) (A ++ (Y ++ B))
  unfolding moved
  stops_around l g (done r k h ec ea) = never (omega arith)
  stops_around l g (paused r k h ec ea) = never (omega arith)
  stops_around {Y} l g (stopped r k s) =
      stopped (reaches_around g r) k (step_in Y (reaches_good fs room ok g r) (λ q. never (cc)) ∙ ap (moved A B) s)

-- ON THE WHOLE MACHINE

module _ (p A X B fX sX f s : List ℕ) (alone : Accepted p fX (length X) sX X) (within : Accepted p f (length (A ++ (X ++ B))) s (A ++ (X ++ B)))
    (shorter : length f ≡ length A + length fX + length B) (between : elements (A ++ (X ++ B)) ≡ elements A ++ (elements X ++ elements B))
    (no_end : holds 7 (elements A) ≡ false) where
  join_around : (Y : List Element) → join (elements A ++ (Y ++ elements B)) ≡ A ++ (join Y ++ B)
  join_around Y = rw (join-append, join-append Y (elements B), join-cut A, join-cut B)

  wider : wide (length fX) (elements A) (elements B) ≡ length f
  unfolding wide
  wider = rw (size-elements A, size-elements B) (sym shorter)

  ok : Functions (elements p)
  ok = program_functions p alone.program

  good : Good (elements X)
  good = field_is_good X alone.good

  around : (Y : List Element) {budget c k place : ℕ}
      → Ends (elements p) (wide (length fX) (elements A) (elements B)) budget (elements A ++ (elements X ++ elements B)) c k place (elements A ++ (Y ++ elements B))
      → machine p f (length (A ++ (X ++ B))) s budget ≡ leaves A (join Y) B (length f) (length s) c k place
  unfolding size
  around Y {budget} e =
      machine_ends p f _ s budget (A ++ (X ++ B)) within (rw (wider, ← between) at e) ∙ rw (join_around Y)

  whole_good : {n : ℕ} {Y : List Element} → Reaches (elements p) (length fX) n (elements X) Y → Good (elements A ++ (Y ++ elements B))
  whole_good r =
      reaches_good (elements p) (wide (length fX) (elements A) (elements B)) ok
      (rw between at (field_is_good (A ++ (X ++ B)) within.good))
      (reaches_around (elements p) (length fX) (elements A) (elements B) ok no_end good r)

  cut_around : {n : ℕ} {Y : List Element} → Reaches (elements p) (length fX) n (elements X) Y → elements (A ++ (join Y ++ B)) ≡ elements A ++ (Y ++ elements B)
  cut_around {Y} r = rw (← join_around Y) (good_cut _ (whole_good r))

  -- what X alone leaves
  module _ (budget c n v place : ℕ) (g t : List ℕ) (left : machine p fX (length X) sX budget ≡ answer c n v place g t) where
    record Left-alone : Type 0 where
      Y : List Element
      ended : Ends (elements p) (length fX) budget (elements X) c n place Y
      is : take v g ≡ join Y

    left_alone : Left-alone
    unfolding size
    left_alone =
        let (c₀, n₀, place₀, Y, e) = accepted_ends p fX (length X) sX budget X alone in
        let q = sym (machine_ends p fX (length X) sX budget X alone e) ∙ left in
        let ec : c₀ ≡ c = cc in let en : n₀ ≡ n = cc in let ep : place₀ ≡ place = cc in
        let ev : length (join Y) ≡ v = cc in
        let eg : join Y ++ zeros (length fX - length (join Y)) ≡ g = cc in
        record { Y = Y; ended = rw (ec, en, ep) at e; is = ap (take v) (sym eg) ∙ take_at (join Y) _ v ev }

    -- with just those steps for a budget A X B is left as A X' B, done or paused as there is a < in it
    pub spent : machine p f (length (A ++ (X ++ B))) s n
        ≡ leaves A (take v g) B (length f) (length s) (cond (holds 6 (elements (A ++ (take v g ++ B)))) 1 0) n 0
    spent =
        let z = left_alone in
        let r = ends_reaches z.ended in
        rw (z.is, cut_around r) (around z.Y (spent_around (elements p) (length fX) (elements A) (elements B) ok no_end good r))

    -- if it stopped for want of a sentence, a function or room, A X B stops so too
    pub stops : 2 ≤ c → machine p f (length (A ++ (X ++ B))) s budget ≡ leaves A (take v g) B (length f) (length s) c n (length A + place)
    stops l =
        let z = left_alone in
        rw (z.is, ← size-elements A) (around z.Y (stops_around (elements p) (length fX) (elements A) (elements B) ok no_end l good z.ended))
