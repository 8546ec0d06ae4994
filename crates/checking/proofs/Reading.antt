-- The check, element by element.
use mathlib.Core.Path.{◌≡◌, refl, sym, ◌∙◌, ap}
use mathlib.Core.Bool.{Bool, true, false, cond}
use mathlib.Core.Option.{Option, none, some}
use mathlib.Core.Logic.{◌⊎◌, inl, inr}
use mathlib.Core.List.{List, ◌∷◌, [], append-nil}
use Prim.Native.Nat.{ℕ, suc, ◌+◌, ◌^◌, ◌≤◌, ◌<◌}
use native.Mathlib.Omega.{arith}
use lib.ListN.{length, get_or, take, drop, length-take, length-drop, drop_of_length-le}
use lib.Dec.{eqb}
use borrow.Author.Tests.{eqb-true, eqb-false, eq-eqb, ne_eqb}
use Rattle.meaning.specs.Elements.{Element, kind, body, cut, elements, join}
use Rattle.meaning.specs.Goodness.{Part, outside, start, left, after, State as Stage, at, span, stands, ends_side, under_limit, on_right, tests, fault, part_after, sided, state_after, may_end, first_bad, bad_program}
use Rattle.meaning.proofs.Truth.{never, is_true, is_false, see}
use Rattle.meaning.proofs.Cutting.{cut_at}
use Rattle.taking.specs.declared.State.{State}
use Rattle.taking.specs.declared.Fault.{Fault}
use Rattle.std.specs.Prelude.{Some, Ok, Err}
use Rattle.kinds.specs.Stacks.{stack}
use Rattle.taking.specs.Standing.{number_of as part_number, part_of, next_of, moved_to, Means, Ready, Tells, Steps}
use Rattle.checking.specs.Passing.{Tried, Reading}
use Rattle.taking.proofs.Parts.{in_field, field_stays}
use Rattle.taking.proofs.Tests.{fails, passes, some_test, stands_yes, fresh_plain, limits_old}
use Rattle.taking.proofs.Variables.{or_no, holds_none}
use Rattle.taking.proofs.Opens.{neither_of as neither, none_moves, paired_none}
use Rattle.taking.proofs.Stepping.{told_by, told_as}
use Rattle.elements.specs.declared.Element.{Element as Read}
use Rattle.elements.specs.declared.Element.TheVariants.{Equals, SentenceEnd}
use Rattle.elements.specs.declared.Cursor.{Cursor}
use Rattle.elements.specs.declared.Unread.TheVariants.{Unknown, Cut}
use Rattle.elements.specs.Bytes.{kind_of, number_of, bytes_of}
use Rattle.elements.specs.Reading.{ReadAt, got, unknown, short}
use Rattle.elements.proofs.Places.{split_size, bare_at}
use Rattle.checking.proofs.Passing.{end_plain, end_kind, good_steps, steps_of, tells_plain}

-- ---- what a cursor reads there
-- the element at i
abbrev element_at : List ℕ → ℕ → Element
element_at bs i = get_or bs i 0 ∷ take (body (get_or bs i 0)) (drop (i + 1) bs)

one_long : (e : Element) → length (join (e ∷ [])) ≡ length e
unfolding join
one_long e = ap length (append-nil e)

module _ {bs : List ℕ} {i : ℕ} {y : Read} {c : Cursor} where
  pub got_number : ReadAt bs i (Ok (y, c)) → number_of y < 256 ^ body (kind_of y)
  got_number (got n l s) = n

  got_front : ReadAt bs i (Ok (y, c)) → elements (drop i bs) ≡ bytes_of y ∷ elements (drop c.at bs)
  got_front (got n l s) = s.front

  pub got_fits : ReadAt bs i (Ok (y, c)) → c.at ≤ length bs
  got_fits (got n l s) = s.fits

  pub got_on : ReadAt bs i (Ok (y, c)) → i < c.at
  got_on (got n l s) = l

  got_long : ReadAt bs i (Ok (y, c)) → i + length (bytes_of y) ≡ c.at
  got_long (got n l s) = omega (arith, split_size s, one_long (bytes_of y))

-- 0B and 0C are read as they are
end_read : (bs : List ℕ) (i : ℕ) → i < length bs → (k : ℕ) → get_or bs i 0 ≡ k → ends_side k ≡ true → (u : Read) × ReadAt bs i (Ok (u, record { at = i + 1 })) × (kind_of u ≡ k)
unfolding ends_side body
end_read bs i h k e z =
    elim (see (eqb k 11)) [
      | is_true y ↦ let w = eqb-true k 11 y in (Equals, read_bare Equals (sym (e ∙ w)) (rw (e ∙ w)) refl, sym w)
      | is_false y ↦ let w = eqb-true k 12 (rw y at z) in (SentenceEnd, read_bare SentenceEnd (sym (e ∙ w)) (rw (e ∙ w)) refl, sym w)
    ]
  where
    read_bare : (x : Read) → kind_of x ≡ get_or bs i 0 → body (get_or bs i 0) ≡ 0 → number_of x ≡ 0 → ReadAt bs i (Ok (x, record { at = i + 1 }))
    read_bare x ek eb = bare_at h refl (omega arith) x ek eb

-- ---- what a step does to the definition's state
abbrev part_in : Stage → Part
part_in (at p opens n vs) = p

part_stays : (s : Stage) (x : Element) → eqb (part_number (part_in (state_after s x))) 0 ≡ eqb (part_number (part_in s)) 0
unfolding state_after
part_stays (at p opens n vs) x = field_stays p (kind x)

-- ---- the state where reading begins
abbrev begin : State
begin = record { part = 1; depth = 0; count = 0; set = record { bits = 0 }; number = 0 }

pub begun : (bs st : List ℕ) → 400 ≤ length st → Reading (bad_program bs) bs 0 begin st
unfolding bad_program stack part_of
begun bs st l =
    record {
      stage = at outside [] 0 [];
      means = record { vs = []; is = refl; holds = holds_none; part = omega arith; deep = omega arith; inside = omega arith; few = omega arith };
      program = omega arith;
      room = l;
      inside = omega arith;
      same = refl;
    }

pub here : (bs st : List ℕ) (i : ℕ) (q : State) (R : Ready q st) → 0 < q.part → i ≤ length bs → Reading (first_bad R.stage i (cut 0 (drop i bs))) bs i q st
here bs st i q R l h =
    record {
      stage = R.stage;
      means = R.means;
      program = l;
      room = let z : eqb q.part 0 ≡ false = ne_eqb q.part 0 (λ e. omega arith) in rw z at R.room;
      inside = h;
      same = refl;
    }

-- ---- the parts before a sentence
module _ (o : List ℕ) (n : ℕ) (vs : List Element) (i : ℕ) (e : Element) (es : List Element) where
  start_left : first_bad (at start o n vs) i (e ∷ es) ≡ first_bad (at left o n vs) i (e ∷ es)
  unfolding first_bad fault tests stands under_limit on_right state_after part_after
  start_left = refl

  after_left : (kind e ≡ 14 → ⊥) → first_bad (at after o n vs) i (e ∷ es) ≡ first_bad (at left o n vs) i (e ∷ es)
  unfolding first_bad fault tests stands under_limit on_right state_after part_after
  after_left m = rw (ne_eqb (kind e) 14 m, or_no)

module _ {found : Option ℕ} {bs st : List ℕ} {i : ℕ} {q : State} (R : Reading found bs i q st) where
  pub ready : Ready q st
  ready = record { stage = R.stage; means = R.means; room = let z : eqb q.part 0 ≡ false = ne_eqb q.part 0 (λ e. omega (arith, R.program)) in rw z R.room }

  -- before a sentence reading may as well be in its left side
  pub entered : i < length bs → (get_or bs i 0 ≡ 14 → ⊥) → (q.part ≡ 2) ⊎ (q.part ≡ 5)
      → Reading found bs i (record { part = 3; depth = q.depth; count = q.count; set = q.set; number = q.number }) st
  unfolding part_of sided
  entered h n w =
      record {
        stage = at left (stack q.depth st) q.count R.means.vs;
        means = record { vs = R.means.vs; is = refl; holds = R.means.holds; part = omega arith; deep = omega (arith, none w); inside = R.means.inside; few = R.means.few };
        program = omega arith;
        room = R.room;
        inside = R.inside;
        same = R.same ∙ rw (cut_at bs i h, R.means.is) (as_left w _);
      }
    where
      none : (q.part ≡ 2) ⊎ (q.part ≡ 5) → q.depth ≤ 0
      none (inl e) = rw e at R.means.deep
      none (inr e) = rw e at R.means.deep

      as_left : (q.part ≡ 2) ⊎ (q.part ≡ 5) → (es : List Element) → first_bad (at (part_of q.part) (stack q.depth st) q.count R.means.vs) i (element_at bs i ∷ es)
          ≡ first_bad (at left (stack q.depth st) q.count R.means.vs) i (element_at bs i ∷ es)
      as_left (inl e) es = rw e (start_left (stack q.depth st) q.count R.means.vs i (element_at bs i) es)
      as_left (inr e) es = rw e (after_left (stack q.depth st) q.count R.means.vs i (element_at bs i) es n)

  -- an element that cannot be read is bad
  unread : (i < length bs) → (x : Element) (es : List Element) → elements (drop i bs) ≡ x ∷ es → (f : ℕ) → fault (at (part_of q.part) (stack q.depth st) q.count R.means.vs) x ≡ suc f → found ≡ some i
  unfolding first_bad
  unread h x es e f n = R.same ∙ rw (e, R.means.is, n, ne_eqb (suc f) 0 (λ z. omega arith))

  pub unknown_bad : ReadAt bs i (Err Unknown) → found ≡ some i
  unfolding fault tests
  unknown_bad (unknown h z) = unread h _ _ (cut_at bs i h) 0 (sym (fails 1 _ z))

  pub cut_bad : ReadAt bs i (Err Cut) → found ≡ some i
  unfolding fault tests
  cut_bad (short h z l) =
      let c = ne_eqb (length (element_at bs i)) (suc (body (get_or bs i 0))) (λ w. never (omega (arith, length-take (body (get_or bs i 0)) (drop (i + 1) bs), length-drop (i + 1) bs))) in
      unread h _ _ (cut_at bs i h) 1 (sym (passes 1 _ z (fails 2 _ c)))

  -- one element more
  module _ {y : Read} {c : Cursor} (A : ReadAt bs i (Ok (y, c))) {k v : ℕ} (I : Tells k v (bytes_of y)) where
    abbrev x : Element
    x = bytes_of y

    pub stopped : {st' : List ℕ} {e : Fault} → Steps q k v st (Err e) st' → found ≡ some i
    unfolding first_bad
    stopped {e} S = R.same ∙ rw (got_front A, ne_eqb (fault R.stage x) 0 (λ z. some_test e (S.fault_is R.means I ∙ z)))

    module _ {st' : List ℕ} {q' : State} (S : Steps q k v st (Ok q') st') (l : length st' ≡ length st) where
      good : fault R.stage x ≡ 0
      good = sym (S.fault_is R.means I)

      next : Means q' st' (state_after R.stage x)
      next = S.next_is R.means I refl

      field_still : eqb q'.part 0 ≡ eqb q.part 0
      field_still =
          sym (in_field q'.part) ∙ ap (λ (s : Stage). eqb (part_number (part_in s)) 0) (sym next.is) ∙ part_stays R.stage x
          ∙ ap (λ (s : Stage). eqb (part_number (part_in s)) 0) R.means.is ∙ in_field q.part

      pub turned : Reading found bs c.at q' st'
      unfolding first_bad
      turned =
          record {
            stage = state_after R.stage x;
            means = next;
            program = let n = eqb-false q'.part 0 (field_still ∙ ne_eqb q.part 0 (λ z. omega (arith, R.program))) in omega arith;
            room = omega (arith, R.room);
            inside = got_fits A;
            same = R.same ∙ rw (got_front A, good, got_long A);
          }

  -- the bytes end
  module _ (h : length bs ≤ i) {r : Bool} (m : (st : List ℕ) (vs : List Element) → r ≡ may_end (at (part_of q.part) (stack q.depth st) q.count vs)) where
    over_all : found ≡ cond r none (some i)
    unfolding first_bad cut
    over_all = R.same ∙ rw (drop_of_length-le bs {i = i} h, m st R.means.vs, R.means.is)

    pub over_good : r ≡ true → found ≡ none
    over_good z = over_all ∙ rw z

    pub over_early : r ≡ false → found ≡ some i
    over_early z = over_all ∙ rw z

-- ---- elements that surely are good
module _ {found : Option ℕ} {bs st : List ℕ} {i : ℕ} {q : State} (R : Reading found bs i q st) where
  -- the end of a side
  pub ended : {to : ℕ} {q' : State} {k next : ℕ} → i < length bs → k ≡ get_or bs i 0 → next ≡ i + 1 + body (get_or bs i 0) → ends_side k ≡ true → Some to ≡ next_of (part_of q.part) k → q.depth ≡ 0
      → q' ≡ moved_to q k 0 to 0 false → Reading found bs next q' st
  ended {to} {q'} {k} {next} h ek en z et d eq =
      let b = end_kind k z in
      let y : span 8 10 k ≡ false = end_plain k b.0 in
      let kn : span 1 15 k ≡ true = b.3 in
      let (u, A, eu) = end_read bs i h k (sym ek) z in
      let I : Tells k 0 (bytes_of u) = tells_plain (told_as u (got_number A) (sym eu) refl) y in
      let B = none_moves k q.depth st (neither k 4 6 (omega arith) (omega arith)) (neither k 5 7 (omega arith) (omega arith)) in
      let S : Steps q k 0 st (Ok q') st = good_steps q k 0 st (ready R) kn (stands_yes (part_of q.part) k et) (rw y)
      (sym (paired_none k q.depth st (neither k 5 7 (omega arith) (omega arith)) d) ∙ eq-eqb q.depth 0 d) false (fresh_plain q.set.bits k 0 y) (limits_old q k false (rw z) refl) to et
      0 st q' (sym d ∙ B.0) B.1 eq in
      let m : i + 1 ≡ next = omega (arith, en, ap body ek, b.2) in
      rw m at (turned R A I S refl)

  -- an element that was taken, or passed
  module _ {y : Read} {c : Cursor} (A : ReadAt bs i (Ok (y, c))) {st' : List ℕ} where
    pub taken_bad : {e : Fault} → Steps q (kind_of y) (number_of y) st (Err e) st' → found ≡ some i
    taken_bad S = stopped R A (told_by y (got_number A)) S

    pub taken_on : {q' : State} → Steps q (kind_of y) (number_of y) st (Ok q') st' → length st' ≡ length st → Reading found bs c.at q' st'
    taken_on S = turned R A (told_by y (got_number A)) S

    pub passed_on : {q' : State} → Tried q (kind_of y) (number_of y) st (Some q') st' → length st' ≡ length st → Reading found bs c.at q' st'
    passed_on T = taken_on (steps_of T)

  pub same-stack : {st' : List ℕ} → st' ≡ st → Reading found bs i q st'
  same-stack e = rw e R
