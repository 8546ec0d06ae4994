-- What is put on a stack, and what is left of it.
use mathlib.Core.Path.{◌≡◌, refl, sym, ◌∙◌, ap, ap₂}
use mathlib.Core.List.{List, ◌∷◌, append_assoc}
use Prim.Native.Nat.{ℕ, zero, suc, ◌+◌, ◌-◌, ◌≤◌, ◌<◌}
use native.Mathlib.Omega.{arith}
use native.Mathlib.Numerals.{add-one, sub-one}
use lib.ListN.{length, get_or, take, drop, set}
use lib.Seq.{sets, sets-eq, take_at, length-take-le, get_or-take, get_or-set_same, get_or-set_other}
use lib.Dec.{eqb}
use borrow.Author.Tests.{ne_eqb}
use Rattle.meaning.specs.Goodness.{empty, top, below}
use Rattle.meaning.proofs.Truth.{never}
use Rattle.kinds.specs.Stacks.{stack}

pub stack_set : (d i v : ℕ) (s : List ℕ) → d ≤ i → stack d (set s i v) ≡ stack d s
unfolding stack
stack_set zero i v s h = refl
stack_set (suc d) i v s h = ap₂ {C = List ℕ} (λ x l. x ∷ l) (get_or-set_other s i d v 0 (omega arith)) (stack_set d i v s (omega arith))

pub stack_sets : (s vs : List ℕ) (i d : ℕ) → d ≤ i → i + length vs ≤ length s → stack d (sets s i vs) ≡ stack d s
unfolding stack
stack_sets s vs i zero h k = refl
stack_sets s vs i (suc d) h k =
    let f : take i (sets s i vs) ≡ take i s =
    ap (take i) (sets-eq vs s i k ∙ append_assoc (take i s) vs (drop (i + length vs) s)) ∙ take_at (take i s) _ i (length-take-le i s (omega arith)) in
    let e : get_or (sets s i vs) d 0 ≡ get_or s d 0 =
    sym (get_or-take i (sets s i vs) d 0 (omega arith)) ∙ ap (λ (l : List ℕ). get_or l d 0) f ∙ get_or-take i s d 0 (omega arith) in
    ap₂ {C = List ℕ} (λ x l. x ∷ l) e (stack_sets s vs i d (omega arith) k)

pub stack_push : (d v : ℕ) (s : List ℕ) → d < length s → stack (d + 1) (set s d v) ≡ v ∷ stack d s
unfolding stack
stack_push d v s h = rw add-one (ap₂ {C = List ℕ} (λ x l. x ∷ l) (get_or-set_same s d v 0 h) (stack_set d d v s (omega arith)))

pub stack_pop : (d : ℕ) (s : List ℕ) → stack (d - 1) s ≡ below (stack d s)
unfolding stack
stack_pop zero s = refl
stack_pop (suc d) s = rw sub-one

pub stack_long : (d : ℕ) (s : List ℕ) → length (stack d s) ≡ d
unfolding stack
stack_long zero s = refl
stack_long (suc d) s = ap suc (stack_long d s)

pub stack-empty : (d : ℕ) (s : List ℕ) → empty (stack d s) ≡ eqb d 0
unfolding stack
stack-empty zero s = refl
stack-empty (suc d) s = sym (ne_eqb (suc d) 0 (omega arith))

pub top_none : (d : ℕ) (s : List ℕ) → d ≡ 0 → 0 ≡ top (stack d s)
unfolding stack
top_none zero s h = refl
top_none (suc d) s h = absurd (omega arith)

pub top_some : (d : ℕ) (s : List ℕ) → (d ≡ 0 → ⊥) → get_or s (d - 1) 0 ≡ top (stack d s)
unfolding stack
top_some zero s h = absurd (h refl)
top_some (suc d) s h = rw sub-one

-- what is on top is on a stack
pub top_deep : (d : ℕ) (s : List ℕ) {t : ℕ} → t ≡ top (stack d s) → 0 < t → 0 < d
unfolding stack
top_deep zero s e h = absurd (omega arith)
top_deep (suc d) s e h = omega arith

-- a stack that is not empty: its top, and the rest
pub stack_parts : (d : ℕ) (s : List ℕ) {i : ℕ} {rest : List ℕ} → i ∷ rest ≡ stack d s → (0 < d) × (i ≡ get_or s (d - 1) 0) × (rest ≡ stack (d - 1) s)
unfolding stack
stack_parts zero s e = never (cc)
stack_parts (suc d) s {i} {rest} e = (omega arith, rw sub-one (let q : i ≡ get_or s d 0 = cc in q), rw sub-one (let q : rest ≡ stack d s = cc in q))
