-- The run: the field that it leaves is the one reached by exactly the answered number of steps, and no other answer is possible.
use mathlib.Core.Path.{◌≡◌, refl, ◌∙◌, ap}
use mathlib.Core.Bool.{true, false}
use mathlib.Core.List.{List, []}
use Prim.Native.Nat.{ℕ, zero, suc, ◌+◌, ◌-◌}
use native.Mathlib.Omega.{arith}
use native.Mathlib.Nat.{zero-add, add-zero, suc-add, add-suc}
use Rattle.meaning.specs.Elements.{Element}
use Rattle.meaning.specs.Machine.{holds, leading, Step, idle, stuck, onward, step_at, step, result, run}
use Rattle.meaning.proofs.Words.{Reaches, stay, go, Ends, done, paused, stopped}
use Rattle.meaning.proofs.Truth.{never, is_true, is_false, see}
use Rattle.meaning.proofs.Leading.{is_nothing, is_lead, see_l, leading-holds, some_leading}
use Rattle.meaning.proofs.Programs.{Functions}
use Rattle.meaning.proofs.Steps.{Good, step_good, step_is, idle_nothing}

pub data SeenS (s : Step) : Type 0 where
  is_idle : s ≡ idle → SeenS s
  is_stuck : (c place : ℕ) → s ≡ stuck c place → SeenS s
  is_onward : (es : List Element) → s ≡ onward es → SeenS s

pub see_s : (s : Step) → SeenS s
see_s idle = is_idle refl
see_s (stuck c place) = is_stuck c place refl
see_s (onward es) = is_onward es refl

pub step-holds : (fs : List Element) (room : ℕ) (es : List Element) → (step fs room es ≡ idle → ⊥) → holds 6 es ≡ true
unfolding step step_at
step-holds fs room es busy =
    elim (see_l (leading es)) [ is_nothing h ↦ absurd (busy (rw h)) | is_lead a c x b h ↦ leading-holds es h ]

-- THE RUN

module _ (fs : List Element) (room : ℕ) where
  pub run_done : (n k : ℕ) (es : List Element) → holds 6 es ≡ false → run fs room n k es ≡ result 0 k 0 es
  unfolding run
  run_done zero k es h = rw (h, run)
  run_done (suc n) k es h = rw (h, run)

  pub run_paused : (k : ℕ) (es : List Element) → holds 6 es ≡ true → run fs room 0 k es ≡ result 1 k 0 es
  unfolding run
  run_paused k es h = rw (h, run)

  pub run_stuck : (n k : ℕ) (es : List Element) (c place : ℕ) → step fs room es ≡ stuck c place → run fs room (suc n) k es ≡ result c k place es
  unfolding run
  run_stuck n k es c place h = rw (step-holds fs room es (λ q. never (cc)), h, run)

  pub run_onward : (n k : ℕ) (es es' : List Element) → step fs room es ≡ onward es' → run fs room (suc n) k es ≡ run fs room n (suc k) es'
  unfolding run
  run_onward n k es es' h = rw (step-holds fs room es (λ q. never (cc)), h, run)

  -- k steps, then the rest of the budget
  pub run_reaches : {k : ℕ} {X Y : List Element} → Reaches fs room k X Y → (n m : ℕ) → run fs room (k + n) m X ≡ run fs room n (m + k) Y
  run_reaches stay n m = rw (zero-add, add-zero)
  run_reaches (go {n = j} {X} {Y} s r) n m = rw (suc-add j n, add-suc m j) (run_onward (j + n) m X Y s ∙ rw (← suc-add m j) (run_reaches r n (suc m)))

  -- nothing but the run's answer is an answer
  pub only : (budget : ℕ) (X : List Element) (c k place : ℕ) (Y : List Element) → Ends fs room budget X c k place Y → run fs room budget 0 X ≡ result c k place Y
  only budget X c k place Y (done r l h ec ea) =
      let e : budget ≡ k + (budget - k) = omega arith in
      rw (e, ec, ea) (run_reaches r (budget - k) 0 ∙ rw zero-add (run_done (budget - k) k Y h))
  only budget X c k place Y (paused r l h ec ea) =
      let e : budget ≡ k + 0 = omega arith in
      rw (e, ec, ea) (run_reaches r 0 0 ∙ rw zero-add (run_paused k Y h))
  only budget X c k place Y (stopped r l s) =
      let e : budget ≡ k + suc (budget - suc k) = omega arith in
      rw e (run_reaches r (suc (budget - suc k)) 0 ∙ rw zero-add (run_stuck (budget - suc k) k Y c place s))

  module _ (ok : Functions fs) where
    pub reaches_good : {n : ℕ} {X Y : List Element} → Good X → Reaches fs room n X Y → Good Y
    reaches_good g stay = g
    reaches_good g (go {X} {Y} s r) = reaches_good (step_good fs room X Y ok g s) r

    -- a good field with a < is not idle
    pub busy : (X : List Element) → Good X → holds 6 X ≡ true → step fs room X ≡ idle → ⊥
    busy X g h s = some_leading X [] g.balanced h (idle_nothing (rw s at (step_is fs room X)))

    pub one_more : {budget : ℕ} {X X₁ : List Element} {c k place : ℕ} {Y : List Element} → step fs room X ≡ onward X₁
        → Ends fs room budget X₁ c k place Y → Ends fs room (suc budget) X c (suc k) place Y
    one_more s (done r l h ec ea) = done (go s r) (omega arith) h ec ea
    one_more s (paused r l h ec ea) = paused (go s r) (ap suc l) h ec ea
    one_more s (stopped r l h) = stopped (go s r) (omega arith) h

    -- the run's answer is an answer
    pub ends : (n : ℕ) (X : List Element) → Good X
        → (c : ℕ) × (k : ℕ) × (place : ℕ) × (Y : List Element) × Ends fs room n X c k place Y
    ends zero X g =
        elim (see (holds 6 X)) [
          | is_true z ↦ (1, 0, 0, X, paused stay refl z refl refl)
          | is_false z ↦ (0, 0, 0, X, done stay (omega arith) z refl refl)
        ]
    ends (suc n) X g =
        elim (see (holds 6 X)) [
          | is_false z ↦ (0, 0, 0, X, done stay (omega arith) z refl refl)
          | is_true z ↦
              elim (see_s (step fs room X)) [
                | is_idle s ↦ absurd (busy X g z s)
                | is_stuck c place s ↦ (c, 0, place, X, stopped stay (omega arith) s)
                | is_onward X₁ s ↦
                    let (c, k, place, Y, e) = ends n X₁ (step_good fs room X X₁ ok g s) in
                    (c, suc k, place, Y, one_more s e)
              ]
        ]
