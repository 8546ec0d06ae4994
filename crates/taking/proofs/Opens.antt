-- The open brackets in a stack.
use mathlib.Core.Path.{◌≡◌, refl, sym}
use mathlib.Core.Bool.{Bool, true, false, ◌&&◌, ◌||◌, not}
use mathlib.Core.Logic.{◌⊎◌, inl, inr}
use mathlib.Core.List.{List}
use Prim.Native.Nat.{ℕ, zero, suc, ◌+◌, ◌-◌, ◌≤◌, ◌<◌}
use native.Mathlib.Omega.{arith}
use lib.ListN.{length, set, length-set}
use lib.Dec.{eqb}
use borrow.Author.Tests.{eqb-true, eq-eqb, ne_eqb}
use Rattle.meaning.specs.Goodness.{implies, empty, top, ends_side, paired, opens_after}
use Rattle.meaning.proofs.Truth.{never, is_true, is_false, see, and_right, or_right}
use Rattle.kinds.specs.Stacks.{stack}
use Rattle.kinds.proofs.Stacks.{stack_push, stack_pop, stack-empty}
use Rattle.taking.specs.Standing.{stack_after, depth_after}

-- ---- pairs
and_true : (a : Bool) → (a && true) ≡ a
and_true true = refl
and_true false = refl

implies_true : (a : Bool) → true ≡ implies a true
implies_true true = refl
implies_true false = refl

implies_false : (a : Bool) → not a ≡ implies a false
implies_false true = refl
implies_false false = refl

module _ (k d : ℕ) (st : List ℕ) where
  pub paired_close : (t : ℕ) → t ≡ top (stack d st) → (k ≡ 5) ⊎ (k ≡ 7) → eqb t (k - 1) ≡ paired k (stack d st)
  unfolding paired ends_side
  paired_close t e (inl h) = rw (e, h) (sym (and_true (eqb (top (stack d st)) 4)))
  paired_close t e (inr h) = rw (e, h) (sym (and_true (eqb (top (stack d st)) 6)))

  paired_else : ((k ≡ 5) ⊎ (k ≡ 7) → ⊥) → paired k (stack d st) ≡ implies (ends_side k) (eqb d 0)
  unfolding paired
  paired_else n = rw (ne_eqb k 5 (λ e. n (inl e)), ne_eqb k 7 (λ e. n (inr e)), stack-empty d st)

  pub paired_none : ((k ≡ 5) ⊎ (k ≡ 7) → ⊥) → d ≡ 0 → eqb d 0 ≡ paired k (stack d st)
  paired_none n h = rw (paired_else n, h) (implies_true (ends_side k))

  pub paired_some : (b : Bool) → b ≡ ends_side k → ((k ≡ 5) ⊎ (k ≡ 7) → ⊥) → (d ≡ 0 → ⊥) → not b ≡ paired k (stack d st)
  paired_some b e n h = rw (e, paired_else n, ne_eqb d 0 h) (implies_false (ends_side k))

  -- a side ends with none open; a closing bracket finds one
  pub end_none : paired k (stack d st) ≡ true → ends_side k ≡ true → d ≡ 0
  unfolding paired
  end_none h z =
      let w : implies (ends_side k) (empty (stack d st)) ≡ true = and_right (implies (eqb k 7) (eqb (top (stack d st)) 6)) _ (and_right (implies (eqb k 5) (eqb (top (stack d st)) 4)) _ h) in
      eqb-true d 0 (rw (z, stack-empty d st) at w)

pub close_some : (k d : ℕ) (st : List ℕ) → (k ≡ 5) ⊎ (k ≡ 7) → paired k (stack d st) ≡ true → 0 < d
unfolding paired stack
close_some k zero st (inl e) h = never (let w : false ≡ true = rw e at h in cc)
close_some k zero st (inr e) h = never (let w : false ≡ true = rw e at h in cc)
close_some k (suc d) st e h = omega arith

-- all but the closing brackets and the ends of sides
pub alone : (k : ℕ) (opens : List ℕ) → k ≤ 10 → ((k ≡ 5) ⊎ (k ≡ 7) → ⊥) → paired k opens ≡ true
unfolding paired ends_side
alone k opens l n = rw (ne_eqb k 5 (λ e. n (inl e)), ne_eqb k 7 (λ e. n (inr e)), ne_eqb k 11 (omega arith), ne_eqb k 12 (omega arith))

-- ---- after an element
either : (k a b : ℕ) → (k ≡ a) ⊎ (k ≡ b) → (eqb k a || eqb k b) ≡ true
either k a b (inl e) = rw (e, eq-eqb a a refl)
either k a b (inr e) = rw (e, eq-eqb b b refl) (or_right (eqb b a))

neither : (k a b : ℕ) → ((k ≡ a) ⊎ (k ≡ b) → ⊥) → (eqb k a || eqb k b) ≡ false
neither k a b n = rw (ne_eqb k a (λ e. n (inl e)), ne_eqb k b (λ e. n (inr e)))

pub neither_of : (k a b : ℕ) → (k ≡ a → ⊥) → (k ≡ b → ⊥) → (k ≡ a) ⊎ (k ≡ b) → ⊥
neither_of k a b m n (inl e) = m e
neither_of k a b m n (inr e) = n e

abbrev pub Becomes : ℕ → ℕ → List ℕ → ℕ → List ℕ → Type 0
Becomes k d st d' st' = (d' ≡ depth_after k d) × (st' ≡ stack_after k d st)

module _ (k d : ℕ) (st : List ℕ) where
  pub one_opens : (k ≡ 4) ⊎ (k ≡ 6) → Becomes k d st (d + 1) (set st d k)
  unfolding depth_after stack_after
  one_opens e = rw (either k 4 6 e) (refl, refl)

  pub one_closes : (k ≡ 5) ⊎ (k ≡ 7) → Becomes k d st (d - 1) st
  unfolding depth_after stack_after
  one_closes (inl e) = rw e (refl, refl)
  one_closes (inr e) = rw e (refl, refl)

  pub none_moves : ((k ≡ 4) ⊎ (k ≡ 6) → ⊥) → ((k ≡ 5) ⊎ (k ≡ 7) → ⊥) → Becomes k d st d st
  unfolding depth_after stack_after
  none_moves f g = rw (neither k 4 6 f, neither k 5 7 g) (refl, refl)

  pub opened_after : d < length st → stack (depth_after k d) (stack_after k d st) ≡ opens_after k (stack d st)
  unfolding depth_after stack_after opens_after
  opened_after h =
      elim (see (eqb k 4 || eqb k 6)) [
        | is_true z ↦ rw z (stack_push d k st h)
        | is_false z ↦ elim (see (eqb k 5 || eqb k 7)) [
          | is_true y ↦ rw (z, y) (stack_pop d st)
          | is_false y ↦ rw (z, y)
        ]
      ]

  pub length_after : length (stack_after k d st) ≡ length st
  unfolding stack_after
  length_after =
      elim (see (eqb k 4 || eqb k 6)) [
        | is_true z ↦ rw z (length-set st d k)
        | is_false z ↦ rw z
      ]

module _ (k d : ℕ) where
  pub depth_le : depth_after k d ≤ d + 1
  unfolding depth_after
  depth_le =
      elim (see (eqb k 4 || eqb k 6)) [
        | is_true z ↦ rw z (omega arith)
        | is_false z ↦ elim (see (eqb k 5 || eqb k 7)) [
          | is_true y ↦ rw (z, y) (omega arith)
          | is_false y ↦ rw (z, y) (omega arith)
        ]
      ]

  pub depth_kept : 7 < k → depth_after k d ≡ d
  unfolding depth_after
  depth_kept h = rw (ne_eqb k 4 (λ e. omega arith), ne_eqb k 6 (λ e. omega arith), ne_eqb k 5 (λ e. omega arith), ne_eqb k 7 (λ e. omega arith))
