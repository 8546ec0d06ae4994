-- A step of the check is a step of the definition.
use mathlib.Core.Path.{◌≡◌, refl, sym, ◌∙◌, ap}
use mathlib.Core.Bool.{Bool, true, false, ◌&&◌, ◌||◌, not}
use mathlib.Core.List.{List, ◌∷◌}
use Prim.Native.Nat.{ℕ, suc, ◌+◌, ◌^◌, ◌≤◌, ◌<◌}
use native.Mathlib.Omega.{arith}
use lib.ListN.{length, get_or}
use lib.Dec.{eqb, leb}
use borrow.Author.Tests.{not-true, eq-eqb, leb-true, ltb-true}
use Rattle.meaning.specs.Elements.{Element, kind, body, among, is_variable}
use Rattle.meaning.specs.Goodness.{Part, State as Stage, span, stands, implies, ends_side, paired, under_limit, on_right, first_failing, tests, fault, part_after, sided, variables_after, state_after}
use Rattle.std.proofs.Common.{Option, Some, None, Result, Ok, Err, is_ok, ok_or}
use Rattle.std.specs.Prelude.{IsErrAnd}
use Rattle.taking.specs.declared.Fault.{Fault}
use Rattle.taking.specs.declared.Fault.TheVariants.{Misplaced}
use Rattle.meaning.proofs.Truth.{never, is_true, is_false, see, and_left, and_right, or_right, span_le}
use Rattle.taking.specs.declared.State.{State}
use Rattle.kinds.specs.Stacks.{stack}
use Rattle.elements.specs.declared.Element.{Element as Read}
use Rattle.elements.specs.Bytes.{kind_of, number_of, bytes_of}
use Rattle.elements.proofs.Digits.{digits_one, digits-length}
use Rattle.elements.proofs.Places.{known-kind}
use Rattle.kinds.proofs.Bodies.{body_var}
use Rattle.taking.specs.Standing.{number_of as partNumber, part_of, next_of, test_of, stack_after, depth_after, fresh, limits_of, tests_of, Movable, moved_to, Means, Ready, Tells, Steps}
use Rattle.taking.proofs.Parts.{part-number, number_small, idles, idles_all, stays, stays_all}
use Rattle.taking.proofs.Tests.{passes, alike, All, all, ends_high, under, count_side}
use Rattle.taking.proofs.Opens.{end_none, opened_after, length_after, depth_le, depth_kept}
use Rattle.taking.proofs.Variables.{is_variable_lem, fresh_is, holds_after}

-- a variable that is known passes both limits
sixth : (v a r l : Bool) → implies v (r || (a || l)) ≡ implies (v && not a) (r || l)
sixth true true r l = or_right r
sixth true false r l = refl
sixth false a r l = refl

seventh : (v a r : Bool) → implies v (not r || a) ≡ implies (v && not a) (not r)
seventh true true r = or_right (not r)
seventh true false true = refl
seventh true false false = refl
seventh false a r = refl

some_same : {a b : ℕ} {o : Option ℕ} → Some a ≡ o → o ≡ Some b → a ≡ b
some_same e f = cc

err_same : {a b : Fault} {r : Result ℕ Fault} → Err a ≡ r → r ≡ Err b → a ≡ b
err_same e f = cc

ok_same : {a b : State} {r : Result State Fault} → r ≡ Ok a → r ≡ Ok b → a ≡ b
ok_same e f = cc

-- the tests found f, 0 or the first that fails; new says whether the element is a fresh variable
module _ (q : State) (k v : ℕ) (st : List ℕ) (new : Bool) (en : new ≡ fresh q.set.bits k v) (f : ℕ)
    (ef : f ≡ first_failing 3 (tests_of q k v (stack q.depth st) new)) where
  abbrev p : Part
  p = part_of q.part

  abbrev opens : List ℕ
  opens = stack q.depth st

  -- they are the tests of the definition
  module _ {s : Stage} {x : Element} (M : Means q st s) (I : Tells k v x) where
    var_is : is_variable x ≡ span 8 10 k
    var_is = is_variable_lem x ∙ ap (span 8 10) I.kind_is

    fourth : implies (is_variable x) (leb (get_or x 1 0) 15) ≡ implies (span 8 10 k) (leb v 15)
    fourth =
        elim (see (span 8 10 k)) [
          | is_false z ↦ rw (var_is, z)
          | is_true z ↦ rw (var_is, z, I.pair z)
        ]

    new_is : implies (span 8 10 k) (leb v 15) ≡ true → new ≡ (is_variable x && not (among x M.vs))
    new_is u = en ∙ fresh_is q.set.bits q.number M.vs k v x M.holds I.kind_is I.pair u

    whole : eqb (length x) (suc (body (kind x))) ≡ true
    whole = eq-eqb (length x) (suc (body (kind x))) (rw I.kind_is I.whole_is)

    same : fault s x ≡ first_failing 3 (tests_of q k v opens new)
    unfolding fault tests tests_of limits_of
    same =
        rw M.is
        (sym (passes 1 _ (rw I.kind_is I.known) (passes 2 _ whole refl)) ∙
        alike 3 _ _ _ (ap (stands p) I.kind_is) λ _.
        alike 4 _ _ _ fourth λ u.
        alike 5 _ _ _ (ap (λ (n : ℕ). paired n opens) I.kind_is) λ _.
        alike 6 _ _ _ (rw (I.kind_is, new_is u, M.holds.counted) (ap (λ (b : Bool). (ends_side k || under_limit p q.count) && b) (sixth (is_variable x) (among x M.vs) (on_right p) _))) λ _.
        alike 7 _ _ _ (rw (new_is u) (seventh (is_variable x) (among x M.vs) (on_right p))) λ _.
        refl)

    fault-same : f ≡ fault s x
    fault-same = ef ∙ sym same

  pub refused : {e : Fault} → test_of e ≡ f → Steps q k v st (Err e) st
  refused {e} h =
      record {
        fault_is = λ M I. h ∙ fault-same M I;
        next_is = λ M I z. never (let w : false ≡ true = ap is_ok z in cc);
        stack_is = λ z. never (let w : false ≡ true = z in cc);
        kept = λ z. refl;
      }

  -- none fails
  module _ (none : f ≡ 0) (R : Ready q st) (known : span 1 15 k ≡ true) where
    passed : All (tests_of q k v opens new)
    passed = all 2 (tests_of q k v opens new) (sym ef ∙ none)

    kind_small : k < 16
    kind_small = let z = span_le 1 15 k known in omega arith

    stood : stands p k ≡ true
    unfolding tests_of
    stood = passed.0

    numbered : implies (span 8 10 k) (leb (v) 15) ≡ true
    unfolding tests_of
    numbered = passed.1.0

    pairs : paired k opens ≡ true
    unfolding tests_of
    pairs = passed.1.1.0

    limits : All (limits_of q k new)
    unfolding tests_of
    limits = passed.1.1.1

    not_full : ends_side k ≡ false → under_limit p q.count ≡ true
    unfolding limits_of
    not_full z = let w = and_left (ends_side k || under_limit p q.count) _ limits.0 in rw z at w

    is_var : new ≡ true → span 8 10 k ≡ true
    unfolding fresh
    is_var z = and_left (span 8 10 k) _ (sym en ∙ z)

    not_right : new ≡ true → on_right p ≡ false
    unfolding limits_of
    not_right z = not-true (on_right p) (rw z at limits.1.0)

    new_fits : new ≡ true → (8 ≤ k) × (k ≤ 10) × (v ≤ 15) × (q.number < 16)
    unfolding limits_of
    new_fits z =
        let r = span_le 8 10 k (is_var z) in
        let l = and_right (ends_side k || under_limit p q.count) _ limits.0 in
        (r.0, r.1, leb-true (v) 15 (rw (is_var z) at numbered), ltb-true q.number 16 (rw (z, not_right z) at l))

    deep_count : q.depth ≤ q.count
    deep_count =
        elim (see (sided p)) [
          | is_true z ↦ rw z at R.means.deep
          | is_false z ↦ omega (arith, rw z at R.means.deep)
        ]

    depth_fits : q.depth < length st
    depth_fits =
        elim (see (eqb q.part 0)) [
          | is_true y ↦ omega (arith, deep_count, rw y at R.room)
          | is_false y ↦ elim (see (ends_side k)) [
            | is_true z ↦ omega (arith, end_none k q.depth st pairs z, rw y at R.room)
            | is_false z ↦ omega (arith, deep_count, under q.part q.count y (not_full z), rw y at R.room)
          ]
        ]

    count_fits : length st < 2 ^ 64 → ends_side k ≡ false → q.count + 1 < 2 ^ 64
    count_fits l z =
        elim (see (eqb q.part 0)) [
          | is_true y ↦ omega (arith, rw y at R.room)
          | is_false y ↦ omega (arith, under q.part q.count y (not_full z))
        ]

    pub can_open : (q.depth < length st) × (paired k opens ≡ true)
    can_open = (depth_fits, pairs)

    pub can_move : length st < 2 ^ 64 → Movable q k v new
    can_move l = (count_fits l, new_fits)

    module _ (to : ℕ) (et : Some to ≡ next_of p k) where
      to_is : to ≡ partNumber (part_after p k)
      unfolding next_of
      to_is = some_same et (rw stood)

      part_next : part_of to ≡ part_after p k
      part_next = ap part_of to_is ∙ part-number (part_after p k)

      -- from a part with no sides to such a part, no bracket opens
      idle : ends_side k ≡ false → sided (part_after p k) ≡ false → (8 ≤ k) × (sided p ≡ false)
      unfolding idles
      idle z y =
          let w : implies (stands p k && (not (ends_side k) && not (sided (part_after p k)))) (leb 8 k && not (sided p)) ≡ true = idles_all q.part k R.means.part kind_small in
          let u : (leb 8 k && not (sided p)) ≡ true = rw (stood, z, y) at w in
          (leb-true 8 k (and_left (leb 8 k) (not (sided p)) u), not-true (sided p) (and_right (leb 8 k) (not (sided p)) u))

      left_still : new ≡ true → on_right (part_after p k) ≡ false
      unfolding stays
      left_still z =
          let w : implies (span 8 10 k && not (on_right p)) (not (on_right (part_after p k))) ≡ true = stays_all q.part k R.means.part kind_small in
          not-true (on_right (part_after p k)) (rw (is_var z, not_right z) at w)

      after : {s : Stage} {x : Element} → Means q st s → Tells k v x → Means (moved_to q k v to (depth_after k q.depth) new) (stack_after k q.depth st) (state_after s x)
      unfolding moved_to state_after tests_of
      after {s} {x} M I =
          record {
            vs = variables_after (part_after p k) x M.vs;
            is = rw (M.is, I.kind_is, part_next, opened_after k q.depth st depth_fits);
            holds = rw (to_is, en) (holds_after q.set.bits q.number M.vs k (v) x M.holds I.kind_is I.pair numbered (part_after p k) (λ z. left_still (en ∙ z)));
            part = omega (arith, to_is, number_small (part_after p k));
            deep =
                elim (see (ends_side k)) [
                  | is_true z ↦ omega (arith, depth_kept k q.depth (ends_high k z), end_none k q.depth st pairs z)
                  | is_false z ↦ elim (see (sided (part_after p k))) [
                    | is_true y ↦
                        let u : sided (part_of to) ≡ true = ap sided part_next ∙ y in
                        rw u (omega (arith, depth_le k q.depth, deep_count, count_side to k q.count z u))
                    | is_false y ↦
                        let w = idle z y in
                        omega (arith, depth_kept k q.depth w.0, rw w.1 at M.deep)
                  ]
                ];
            inside = omega (arith, depth_le k q.depth, depth_fits, length_after k q.depth st);
            few =
                elim (see (span 3 4 to)) [
                  | is_false z ↦ rw z (omega arith)
                  | is_true z ↦ elim (see new) [
                    | is_true y ↦ rw (z, y) (omega (arith, (new_fits y).3))
                    | is_false y ↦ rw (z, y) M.few
                  ]
                ];
          }

      pub accepted : (d : ℕ) (st' : List ℕ) (q' : State) → d ≡ depth_after k q.depth → st' ≡ stack_after k q.depth st → q' ≡ moved_to q k v to d new
          → Steps q k v st (Ok q') st'
      accepted d st' q' ed es eq =
          record {
            fault_is = λ M I. sym none ∙ fault-same M I;
            next_is = λ M I z. rw (← ok_same refl z, eq, ed, es) (after M I);
            stack_is = λ z. es;
            kept = λ z. never (let w : false ≡ true = z in cc);
          }

-- what `?` hands on
pub handed : (r : Result State Fault) {e : Fault} → IsErrAnd r (λ d. d ≡ e) → r ≡ Err e
handed (Ok x) h = elim h [ ]
handed (Err d) h = ap Err h

pub misplaced : {o : Option ℕ} {e : Fault} → Err e ≡ ok_or o Misplaced → o ≡ None → test_of e ≡ 3
misplaced h z = ap test_of (err_same (rw z at h) refl)

-- an element whose number fits its body is told by its kind and its number
pub told_by : (y : Read) → number_of y < 256 ^ body (kind_of y) → Tells (kind_of y) (number_of y) (bytes_of y)
told_by y h =
    record {
      kind_is = refl;
      known = known-kind y;
      whole_is = ap suc (digits-length (body (kind_of y)) (number_of y));
      pair = λ z. let w = span_le 8 10 (kind_of y) z in let b = body_var (kind_of y) w.0 w.1 in rw b (ap {B = List ℕ} (λ l. kind_of y ∷ l) (digits_one (number_of y) (rw b at h)));
    }

pub told_as : (y : Read) {k v : ℕ} → number_of y < 256 ^ body (kind_of y) → k ≡ kind_of y → v ≡ number_of y → Tells k v (bytes_of y)
told_as y h e n = rw (e, n) (told_by y h)
