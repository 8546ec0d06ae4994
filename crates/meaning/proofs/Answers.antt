-- The eight answers as a relation: the machine's answer is the only one.
use mathlib.Core.Path.{◌≡◌, refl, ◌∙◌, ap}
use mathlib.Core.Bool.{true, ◌&&◌}
use mathlib.Core.List.{List, ◌++◌}
use Prim.Native.Nat.{ℕ, ◌-◌, ◌≤◌}
use native.Mathlib.Omega.{arith}
use lib.ListN.{length, take, length-take}
use lib.Dec.{leb}
use borrow.Author.Tests.{leb-true}
use Rattle.meaning.specs.Elements.{Element, elements, join, size}
use Rattle.meaning.specs.Goodness.{bad_program, bad_field}
use Rattle.meaning.specs.Machine.{run, Answer, answer, longest, sizes, closing, machine}
use Rattle.meaning.proofs.Words.{Reaches, stay, go, Ends, done, paused, stopped, zeros, Accepted, Lawful, bad_sizes, bad_program_lem, bad_field_lem, ran}
use Rattle.meaning.proofs.Truth.{is_true, is_false, see, is_none, is_some, see_o, and_left, and_right}
use Rattle.meaning.proofs.Cutting.{join-cut}
use Rattle.meaning.proofs.Programs.{program_functions}
use Rattle.meaning.proofs.Steps.{Good, field_is_good, step_is, step_room, stuck_code}
use Rattle.meaning.proofs.Runs.{ends, only, reaches_good}

module _ (p f : List ℕ) (used : ℕ) (s : List ℕ) (budget : ℕ) where
  pub machine_runs : (X : List ℕ) → Accepted p f used s X → machine p f used s budget ≡ closing f s (run (elements p) (length f) budget 0 (elements X))
  unfolding machine
  machine_runs X r = rw (r.fit, machine) (rw r.program (rw (r.is, r.good, r.is)))

  -- what an accepted call leaves
  pub machine_ends : (X : List ℕ) {c k place : ℕ} {Y : List Element} → Accepted p f used s X → Ends (elements p) (length f) budget (elements X) c k place Y
      → machine p f used s budget ≡ answer c k (size Y) place (join Y ++ zeros (length f - size Y)) (zeros (length s))
  unfolding closing
  machine_ends X r e = machine_runs X r ∙ rw (only (elements p) (length f) budget (elements X) _ _ _ _ e)

  pub only_lawful : {a : Answer} → Lawful p f used s budget a → machine p f used s budget ≡ a
  unfolding machine
  only_lawful (bad_sizes h) = rw (h, machine)
  only_lawful (bad_program_lem h i) = rw (h, machine) (rw i)
  only_lawful (bad_field_lem h i j) = rw (h, machine) (rw i (rw j))
  only_lawful (ran {X} r e) = machine_ends X r e

  pub accepted_ends : (X : List ℕ) → Accepted p f used s X
      → (c : ℕ) × (k : ℕ) × (place : ℕ) × (Y : List Element) × Ends (elements p) (length f) budget (elements X) c k place Y
  accepted_ends X r = ends (elements p) (length f) (program_functions p r.program) budget (elements X) (field_is_good X r.good)

  pub lawful : (a : Answer) × Lawful p f used s budget a
  lawful =
      elim (see (sizes p f used s)) [
        | is_false h ↦ (_, bad_sizes h)
        | is_true h ↦
            elim (see_o (bad_program p)) [
              | is_some place i ↦ (_, bad_program_lem h i)
              | is_none i ↦
                  elim (see_o (bad_field (take used f))) [
                    | is_some place j ↦ (_, bad_field_lem h i j)
                    | is_none j ↦
                        let r : Accepted p f used s (take used f) = record { fit = h; program = i; is = refl; good = j } in
                        let (c, k, place, Y, e) = accepted_ends (take used f) r in
                        (_, ran r e)
                  ]
            ]
      ]

-- WHAT CAN BE SAID OF EACH

pub reaches_room : (fs : List Element) (room : ℕ) {n : ℕ} {X Y : List Element} → size X ≤ room → Reaches fs room n X Y → size Y ≤ room
reaches_room fs room h stay = h
reaches_room fs room h (go {X} {Y} s r) = reaches_room fs room (step_room (rw s at (step_is fs room X))) r

pub ends_reaches : {fs : List Element} {room budget : ℕ} {X : List Element} {c k place : ℕ} {Y : List Element} → Ends fs room budget X c k place Y → Reaches fs room k X Y
ends_reaches (done r l h ec ea) = r
ends_reaches (paused r l h ec ea) = r
ends_reaches (stopped r l h) = r

pub ends_code : {fs : List Element} {room budget : ℕ} {X : List Element} {c k place : ℕ} {Y : List Element} → Ends fs room budget X c k place Y → (c ≤ 4) × (k ≤ budget)
ends_code (done r l h ec ea) = omega arith
ends_code (paused r l h ec ea) = omega arith
ends_code {fs} {room} {c} {place} {Y} (stopped r l h) = ((stuck_code (rw h at (step_is fs room Y))).1, omega arith)

pub sizes_used : (p f : List ℕ) (used : ℕ) (s : List ℕ) → sizes p f used s ≡ true → used ≤ length f
unfolding sizes
sizes_used p f used s h = leb-true _ _ (and_right (leb (length p) longest && leb (length f) longest && leb (length s) longest) _ (and_left _ _ h))

pub size-elements : (A : List ℕ) → size (elements A) ≡ length A
unfolding size
size-elements A = ap length (join-cut A)

module _ (p f : List ℕ) (used : ℕ) (s X : List ℕ) (r : Accepted p f used s X) where
  pub accepted_room : size (elements X) ≤ length f
  accepted_room =
      let u = sizes_used p f used s r.fit in
      rw (size-elements X, ← r.is) (simp length-take (omega arith))

  -- the field that is left is good, and fits the buffer
  pub ends_good : {budget c k place : ℕ} {Y : List Element} → Ends (elements p) (length f) budget (elements X) c k place Y → Good Y
  ends_good e = reaches_good (elements p) (length f) (program_functions p r.program) (field_is_good X r.good) (ends_reaches e)

  pub ends_room : {budget c k place : ℕ} {Y : List Element} → Ends (elements p) (length f) budget (elements X) c k place Y → size Y ≤ length f
  ends_room e = reaches_room (elements p) (length f) accepted_room (ends_reaches e)
