-- Elements that surely are good make a step of the check.
use mathlib.Core.Path.{◌≡◌, refl, sym, ◌∙◌}
use mathlib.Core.Bool.{Bool, true, false, ◌||◌}
use mathlib.Core.Logic.{◌⊎◌, inl, inr}
use mathlib.Core.List.{List, ◌∷◌}
use Prim.Native.Nat.{ℕ, ◌+◌, ◌≤◌, ◌<◌}
use native.Mathlib.Omega.{arith}
use lib.ListN.{length}
use lib.Dec.{eqb, leb, ltb}
use borrow.Author.Tests.{eqb-true, eqb-false, leb-false, ne_eqb, le-leb, lt-leb, lt-ltb}
use Rattle.meaning.specs.Elements.{Element, body}
use Rattle.meaning.specs.Goodness.{left, right, span, stands, implies, ends_side, paired, under_limit, first_failing, part_after, sided, count_after}
use Rattle.meaning.proofs.Truth.{never, is_true, is_false, see, or_right, span_le}
use Rattle.taking.specs.declared.State.{State}
use Rattle.kinds.specs.Slots.{slot_of, joined}
use Rattle.kinds.specs.Stacks.{stack}
use Rattle.taking.specs.Standing.{part_of, next_of, stack_after, depth_after, fresh, limits_of, tests_of, Movable, moved_to, Ready, Tells, Steps}
use Rattle.checking.specs.Passing.{HasRoom, Tried, passes, leaves}
use Rattle.std.specs.Prelude.{Some, None, Ok}
use Rattle.taking.proofs.Parts.{sided_is}
use Rattle.taking.proofs.Opens.{neither_of as neither, alone, Becomes, none_moves}
use Rattle.taking.proofs.Tests.{passes as follows, span_from, span_low, under, fresh_plain, limits_old, limits_left, count_side, moved_old, moved_new}
use Rattle.taking.proofs.Stepping.{accepted}

pub plain : (k : ℕ) → k < 8 → span 8 10 k ≡ false
plain k h = sym (span_low 8 10 k h) ∙ lt-leb 8 k h

pub end_plain : (k : ℕ) → 10 < k → span 8 10 k ≡ false
end_plain k h = sym (span_from 8 10 k (omega arith)) ∙ lt-leb k 10 h

pub no_end : (k : ℕ) → k ≤ 10 → ends_side k ≡ false
unfolding ends_side
no_end k h = rw (ne_eqb k 11 (omega arith), ne_eqb k 12 (omega arith))

pub end_kind : (k : ℕ) → ends_side k ≡ true → (10 < k) × (k ≤ 12) × (body k ≡ 0) × (span 1 15 k ≡ true)
unfolding ends_side body span
end_kind k z =
    elim (see (eqb k 11)) [
      | is_true y ↦ let e = eqb-true k 11 y in (omega arith, omega arith, rw e, rw e)
      | is_false y ↦ let w : eqb k 12 ≡ true = rw y at z in let e = eqb-true k 12 w in (omega arith, omega arith, rw e, rw e)
    ]

-- ---- a step without a fault
module _ (q : State) (k v : ℕ) (st : List ℕ) (R : Ready q st) (known : span 1 15 k ≡ true) (stood : stands (part_of q.part) k ≡ true)
    (nu : implies (span 8 10 k) (leb v 15) ≡ true) (p : paired k (stack q.depth st) ≡ true) (new : Bool) (en : new ≡ fresh q.set.bits k v)
    (lim : 0 ≡ first_failing 6 (limits_of q k new)) (to : ℕ) (et : Some to ≡ next_of (part_of q.part) k) where
  good : 0 ≡ first_failing 3 (tests_of q k v (stack q.depth st) new)
  unfolding tests_of
  good = follows 3 _ stood (follows 4 _ nu (follows 5 _ p lim))

  pub good_steps : (d : ℕ) (st' : List ℕ) (q' : State) → d ≡ depth_after k q.depth → st' ≡ stack_after k q.depth st → q' ≡ moved_to q k v to d new
      → Steps q k v st (Ok q') st'
  good_steps = accepted q k v st new en 0 good refl R known to et

-- ---- in a side
side_part : (p : ℕ) → span 3 4 p ≡ true → (p ≡ 3) ⊎ (p ≡ 4)
side_part p z =
    let r = span_le 3 4 p z in
    elim (see (eqb p 4)) [
      | is_true y ↦ inr (eqb-true p 4 y)
      | is_false y ↦ let n = eqb-false p 4 y in inl (omega arith)
    ]

stood_left : (k : ℕ) → 1 ≤ k → k ≤ 10 → (k ≡ 6 → ⊥) → (k ≡ 7 → ⊥) → stands left k ≡ true
unfolding stands span
stood_left k low high m n =
    elim (see (leb k 5)) [
      | is_true z ↦ rw (le-leb 1 k low, z)
      | is_false z ↦ let h : 8 ≤ k = high_enough k m n (leb-false k 5 z) in rw (le-leb 1 k low, z, le-leb 8 k h, le-leb k 11 (omega arith))
    ]
  where
    high_enough : (k : ℕ) → (k ≡ 6 → ⊥) → (k ≡ 7 → ⊥) → 5 < k → 8 ≤ k
    high_enough k m n h = omega arith

stood_right : (k : ℕ) → 1 ≤ k → k ≤ 10 → stands right k ≡ true
unfolding stands span
stood_right k low high = rw (le-leb 1 k low, le-leb k 10 high)

stood : (p k : ℕ) → (p ≡ 3) ⊎ (p ≡ 4) → 1 ≤ k → k ≤ 10 → ((k ≡ 6) ⊎ (k ≡ 7) → p ≡ 4) → stands (part_of p) k ≡ true
unfolding part_of
stood p k (inl e) low high r = rw e (stood_left k low high (λ z. omega (arith, r (inl z))) (λ z. omega (arith, r (inr z))))
stood p k (inr e) low high r = rw e (stood_right k low high)

same-part : (p k : ℕ) → (p ≡ 3) ⊎ (p ≡ 4) → k ≤ 10 → stands (part_of p) k ≡ true → Some p ≡ next_of (part_of p) k
unfolding next_of part_of part_after
same-part p k (inl e) high s = let w : stands left k ≡ true = rw e at s in rw (e, w, ne_eqb k 11 (omega arith))
same-part p k (inr e) high s = let w : stands right k ≡ true = rw e at s in rw (e, w, ne_eqb k 12 (omega arith))

module _ (q : State) (H : HasRoom q) where
  pub few : q.count < 400
  few = under q.part q.count (ne_eqb q.part 0 (λ e. omega (arith, span_le 3 4 q.part H.0))) H.1

  module _ (k v : ℕ) (low : 1 ≤ k) (high : k ≤ 10) (right-only : (k ≡ 6) ⊎ (k ≡ 7) → q.part ≡ 4) (st : List ℕ) (R : Ready q st) (p : paired k (stack q.depth st) ≡ true) where
    stands_here : stands (part_of q.part) k ≡ true
    stands_here = stood q.part k (side_part q.part H.0) low high right-only

    room : (ends_side k || under_limit (part_of q.part) q.count) ≡ true
    room = rw H.1 (or_right (ends_side k))

    known : span 1 15 k ≡ true
    unfolding span
    known = rw (le-leb 1 k low, le-leb k 15 (omega arith))

    -- no variable, or one that the side has
    pub old_steps : implies (span 8 10 k) (leb v 15) ≡ true → (new : Bool) → new ≡ fresh q.set.bits k v → new ≡ false
        → (d : ℕ) (st' : List ℕ) (q' : State) → d ≡ depth_after k q.depth → st' ≡ stack_after k q.depth st → q' ≡ moved_to q k v q.part d new
        → Steps q k v st (Ok q') st'
    old_steps nu new en z = good_steps q k v st R known stands_here nu p new en (limits_old q k new room z) q.part (same-part q.part k (side_part q.part H.0) high stands_here)

    pub new_steps : implies (span 8 10 k) (leb v 15) ≡ true → (new : Bool) → new ≡ fresh q.set.bits k v → new ≡ true → (q.part ≡ 4 → ⊥) → q.number < 16
        → (d : ℕ) (st' : List ℕ) (q' : State) → d ≡ depth_after k q.depth → st' ≡ stack_after k q.depth st → q' ≡ moved_to q k v q.part d new
        → Steps q k v st (Ok q') st'
    new_steps nu new en z n f = good_steps q k v st R known stands_here nu p new en (limits_left q k new room z n f) q.part (same-part q.part k (side_part q.part H.0) high stands_here)

pub room_in : (q : State) {p n : ℕ} → q.part ≡ p → span 3 4 p ≡ true → ((m : ℕ) → (p ≡ 0 → ⊥) → under_limit (part_of p) m ≡ ltb m n) → q.count < n → HasRoom q
room_in q {p} {n} e z f h = rw e (z, f q.count (λ y. omega (arith, span_le 3 4 p z)) ∙ lt-ltb q.count n h)

pub shallow : (q : State) (st : List ℕ) → HasRoom q → Ready q st → q.depth < length st
shallow q st H R =
    let z : eqb q.part 0 ≡ false = ne_eqb q.part 0 (λ e. omega (arith, span_le 3 4 q.part H.0)) in
    let y : sided (part_of q.part) ≡ true = rw (sided_is q.part, H.0) (or_right (eqb q.part 0)) in
    omega (arith, rw y at R.means.deep, few q H, rw z at R.room)

pub end_movable : (q : State) (k : ℕ) → ends_side k ≡ true → Movable q k 0 false
end_movable q k z = (λ y. never (let c : true ≡ false = sym z ∙ y in cc), λ y. never (let c : false ≡ true = y in cc))

-- ---- what is known of a passed element, and of one that is left
pub steps_of : {q q' : State} {k v : ℕ} {st st' : List ℕ} → Tried q k v st (Some q') st' → Steps q k v st (Ok q') st'
steps_of (passes S e) = S

pub same_part : {q q' : State} {k v : ℕ} {st st' : List ℕ} → Tried q k v st (Some q') st' → q'.part ≡ q.part
same_part (passes S e) = e

pub left_stack : {q : State} {k v : ℕ} {st st' : List ℕ} → Tried q k v st None st' → st' ≡ st
left_stack leaves = refl

-- ---- what the helpers answer
-- the state behind one element more of a side, d brackets being open
abbrev further : State → ℕ → State
further q d = record { part = q.part; depth = d; count = q.count + 1; set = q.set; number = q.number }

module _ (q : State) (H : HasRoom q) where
  counted : (k : ℕ) → k ≤ 10 → q.count + 1 ≡ count_after (part_of q.part) k q.count
  counted k h = count_side q.part k q.count (no_end k h) (rw (sided_is q.part, H.0) (or_right (eqb q.part 0)))

  -- no variable, or one that the side has
  old_tried : (k v : ℕ) → 1 ≤ k → k ≤ 10 → ((k ≡ 6) ⊎ (k ≡ 7) → q.part ≡ 4) → (st : List ℕ) → Ready q st → paired k (stack q.depth st) ≡ true
      → implies (span 8 10 k) (leb v 15) ≡ true → {new : Bool} → new ≡ fresh q.set.bits k v → new ≡ false
      → (d : ℕ) (st' : List ℕ) → d ≡ depth_after k q.depth → st' ≡ stack_after k q.depth st → Tried q k v st (Some (further q d)) st'
  old_tried k v low high only st R p nu {new} en z d st' ed es =
      let m = moved_old q k v q.part d new (q.count + 1) (counted k high) H.0 z in
      passes (old_steps q H k v low high only st R p nu new en z d st' _ ed es m) refl

  pub bracket_passed : (k v : ℕ) → 4 ≤ k → k ≤ 7 → ((5 < k) × (q.part ≡ 4)) ⊎ (k ≤ 5) → (st : List ℕ) → Ready q st → paired k (stack q.depth st) ≡ true
      → (d : ℕ) (st' : List ℕ) → d ≡ depth_after k q.depth → st' ≡ stack_after k q.depth st → Tried q k v st (Some (further q d)) st'
  bracket_passed k v low high w st R p =
      let y : span 8 10 k ≡ false = plain k (omega arith) in
      old_tried k v (omega arith) (omega arith) (only w) st R p (rw y) (fresh_plain q.set.bits k v y) refl
    where
      only : ((5 < k) × (q.part ≡ 4)) ⊎ (k ≤ 5) → (k ≡ 6) ⊎ (k ≡ 7) → q.part ≡ 4
      only (inl w) e = w.1
      only (inr w) (inl e) = never (omega arith)
      only (inr w) (inr e) = never (omega arith)

  -- what is no bracket
  module _ (k v : ℕ) (low : 1 ≤ k) (high : k ≤ 10) (free : 4 ≤ k → k ≤ 7 → ⊥) (st : List ℕ) (R : Ready q st) (nu : implies (span 8 10 k) (leb v 15) ≡ true)
      {new : Bool} (en : new ≡ fresh q.set.bits k v) where
    none_of : (i j : ℕ) → (4 ≤ i) × (i ≤ 7) → (4 ≤ j) × (j ≤ 7) → (k ≡ i) ⊎ (k ≡ j) → ⊥
    none_of i j a b = neither k i j (λ e. free (omega arith) (omega arith)) (λ e. free (omega arith) (omega arith))

    shuts_none : (k ≡ 5) ⊎ (k ≡ 7) → ⊥
    shuts_none = none_of 5 7 (omega arith, omega arith) (omega arith, omega arith)

    still : Becomes k q.depth st q.depth st
    still = none_moves k q.depth st (none_of 4 6 (omega arith, omega arith) (omega arith, omega arith)) shuts_none

    pairs : paired k (stack q.depth st) ≡ true
    pairs = alone k (stack q.depth st) high shuts_none

    anywhere : (k ≡ 6) ⊎ (k ≡ 7) → q.part ≡ 4
    anywhere w = absurd (none_of 6 7 (omega arith, omega arith) (omega arith, omega arith) w)

    old_here : new ≡ false → Tried q k v st (Some (further q q.depth)) st
    old_here z = old_tried k v low high anywhere st R pairs nu en z q.depth st still.0 still.1

    new_here : new ≡ true → (q.part ≡ 4 → ⊥) → q.number < 16 → {j slots : ℕ} → j ≡ slot_of k v → slots ≡ joined q.set.bits j
        → Tried q k v st (Some (record { part = q.part; depth = q.depth; count = q.count + 1; set = record { bits = slots }; number = q.number + 1 })) st
    new_here z n l {j} {slots} f g =
        let m = moved_new q k v q.part q.depth new (q.count + 1) (counted k high) j slots H.0 z f g in
        passes (new_steps q H k v low high anywhere st R pairs nu new en z n l q.depth st _ still.0 still.1 m) refl

  pub symbol_passed : (k v : ℕ) → 1 ≤ k → k ≤ 3 → (st : List ℕ) → Ready q st → Tried q k v st (Some (further q q.depth)) st
  symbol_passed k v low high st R =
      let y : span 8 10 k ≡ false = plain k (omega arith) in
      old_here k v low (omega arith) (λ a b. omega arith) st R (rw y) (fresh_plain q.set.bits k v y) refl

  module _ (k v : ℕ) (low : 8 ≤ k) (high : k ≤ 10) (small : v ≤ 15) (st : List ℕ) (R : Ready q st) {new : Bool} (en : new ≡ fresh q.set.bits k v) where
    numbered : implies (span 8 10 k) (leb v 15) ≡ true
    unfolding span
    numbered = rw (le-leb 8 k low, le-leb k 10 high, le-leb v 15 small)

    pub old_passed : new ≡ false → Tried q k v st (Some (further q q.depth)) st
    old_passed = old_here k v (omega arith) high (λ a b. omega arith) st R numbered en

    pub new_passed : new ≡ true → (q.part ≡ 4 → ⊥) → q.number < 16 → {j slots : ℕ} → j ≡ slot_of k v → slots ≡ joined q.set.bits j
        → Tried q k v st (Some (record { part = q.part; depth = q.depth; count = q.count + 1; set = record { bits = slots }; number = q.number + 1 })) st
    new_passed = new_here k v (omega arith) high (λ a b. omega arith) st R numbered en

-- ---- only a variable's number is asked for
pub tells_plain : {k v : ℕ} {x : Element} → Tells k v x → span 8 10 k ≡ false → Tells k 0 x
tells_plain t z =
    record { kind_is = t.kind_is; known = t.known; whole_is = t.whole_is; pair = λ y. never (let c : true ≡ false = sym y ∙ z in cc) }
