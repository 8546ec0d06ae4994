-- What the small tests find, and the first of a list that fails.
use mathlib.Core.Path.{◌≡◌, refl, sym, ◌∙◌, ap}
use Rattle.std.specs.Prelude.{Some, None, is_some}
use mathlib.Core.Bool.{Bool, true, false, ◌||◌, not, cond}
use mathlib.Core.List.{List, ◌∷◌, []}
use Prim.Native.Nat.{ℕ, suc, ◌+◌, ◌≤◌, ◌<◌}
use native.Mathlib.Omega.{arith}
use native.Mathlib.Numerals.{add-one}
use lib.Dec.{eqb, leb, ltb}
use borrow.Author.Tests.{le-leb, lt-leb, eqb-true, ne_eqb, ltb-true, lt-ltb, le-ltb}
use Rattle.meaning.specs.Elements.{Element}
use Rattle.meaning.specs.Goodness.{Part, span, stands, implies, ends_side, under_limit, first_failing, sided, count_after, may_end, at}
use Rattle.meaning.proofs.Truth.{never, is_true, is_false, see, and_false}
use Rattle.kinds.specs.Slots.{slot_of, within, joined}
use Rattle.taking.specs.declared.State.{State}
use Rattle.kinds.specs.Stacks.{stack}
use Rattle.taking.specs.declared.Fault.{Fault}
use Rattle.taking.specs.declared.Fault.TheVariants.{Misplaced, NumberTooHigh, Unpaired, TooMany, Unknown}
use Rattle.taking.specs.Standing.{part_of, next_of, test_of, fresh, limits_of, moved_to}
use Rattle.kinds.proofs.Stacks.{stack-empty}
use Rattle.taking.proofs.Parts.{by_part, on_right_lem, limit_is, sided_is}

-- ---- what a call found, and what its test said
pub told : {r b v : Bool} → r ≡ b → r ≡ v → b ≡ v
told e h = sym e ∙ h

-- ---- the first that fails
pub fails : (n : ℕ) {b : Bool} (bs : List Bool) → b ≡ false → n ≡ first_failing n (b ∷ bs)
unfolding first_failing
fails n bs e = rw e

pub passes : (n : ℕ) {b : Bool} (bs : List Bool) {r : ℕ} → b ≡ true → r ≡ first_failing (suc n) bs → r ≡ first_failing n (b ∷ bs)
unfolding first_failing
passes n bs e f = rw e f

pub passed : (n : ℕ) → 0 ≡ first_failing n []
unfolding first_failing
passed n = refl

pub some_test : (e : Fault) → test_of e ≡ 0 → ⊥
some_test Misplaced h = never (omega arith)
some_test NumberTooHigh h = never (omega arith)
some_test Unpaired h = never (omega arith)
some_test TooMany h = never (omega arith)
some_test Unknown h = never (omega arith)

-- lists that agree as far as they are asked
pub alike : (n : ℕ) {a : Bool} (b : Bool) (xs bs : List Bool) → a ≡ b → (b ≡ true → first_failing (suc n) xs ≡ first_failing (suc n) bs)
    → first_failing n (a ∷ xs) ≡ first_failing n (b ∷ bs)
unfolding first_failing
alike n true xs bs e h = rw e (h refl)
alike n false xs bs e h = rw e

-- none fails
abbrev pub All : List Bool → Type 0
All [] = Unit
All (b ∷ bs) = (b ≡ true) × All bs

pub all : (n : ℕ) (bs : List Bool) → first_failing (suc n) bs ≡ 0 → All bs
unfolding first_failing
all n [] f = tt
all n (true ∷ bs) f = (refl, all (suc n) bs f)
all n (false ∷ bs) f = never (omega arith)

-- ---- spans and ends
pub span_from : (a b n : ℕ) → a ≤ n → leb n b ≡ span a b n
unfolding span
span_from a b n h = rw (le-leb a n h)

pub span_low : (a b n : ℕ) → n < a → leb a n ≡ span a b n
unfolding span
span_low a b n h = rw (lt-leb a n h)

pub ends_left : (k : ℕ) → k ≡ 11 → eqb k 11 ≡ ends_side k
unfolding ends_side
ends_left k e = rw e

pub ends_else : (k : ℕ) → (k ≡ 11 → ⊥) → eqb k 12 ≡ ends_side k
unfolding ends_side
ends_else k n = rw (ne_eqb k 11 n)

pub ends_high : (k : ℕ) → ends_side k ≡ true → 7 < k
unfolding ends_side
ends_high k z =
    elim (see (eqb k 11)) [
      | is_true y ↦ omega (arith, eqb-true k 11 y)
      | is_false y ↦ omega (arith, let w : eqb k 12 ≡ true = rw y at z in eqb-true k 12 w)
    ]

-- ---- the part to which an element leads
none_some : (n : ℕ) → None ≡ Some n → ⊥
none_some n e = never (let w : false ≡ true = ap is_some e in cc)

module _ (p : Part) (k : ℕ) where
  pub stands_no : None ≡ next_of p k → stands p k ≡ false
  unfolding next_of
  stands_no e =
      elim (see (stands p k)) [
        | is_false z ↦ z
        | is_true z ↦ absurd (none_some _ (rw z at e))
      ]

  pub stands_yes : {to : ℕ} → Some to ≡ next_of p k → stands p k ≡ true
  unfolding next_of
  stands_yes e =
      elim (see (stands p k)) [
        | is_true z ↦ z
        | is_false z ↦ absurd (none_some _ (let w : Some _ ≡ None = rw z at e in sym w))
      ]

-- ---- limits
module _ (p k n : ℕ) where
  pub room_end : ends_side k ≡ true → true ≡ (ends_side k || under_limit (part_of p) n)
  room_end e = rw e

  pub room_field : ends_side k ≡ false → p ≡ 0 → eqb p 0 ≡ (ends_side k || under_limit (part_of p) n)
  room_field e f = rw (e, limit_is p n, f)

  pub room_else : ends_side k ≡ false → {b : Bool} → under_limit (part_of p) n ≡ b → b ≡ (ends_side k || under_limit (part_of p) n)
  room_else e f = rw (e, f)

pub limit_right : (p n : ℕ) → p ≡ 4 → under_limit (part_of p) n ≡ ltb n 400
limit_right p n e = rw (limit_is p n, e)

pub limit_else : (p n : ℕ) → (p ≡ 0 → ⊥) → (p ≡ 4 → ⊥) → under_limit (part_of p) n ≡ ltb n 100
limit_else p n f g = rw (limit_is p n, ne_eqb p 0 f, ne_eqb p 4 g)

pub under : (p n : ℕ) → eqb p 0 ≡ false → under_limit (part_of p) n ≡ true → n < 400
under p n z h =
    elim (see (eqb p 4)) [
      | is_true y ↦ ltb-true n 400 (rw (limit_is p n, z, y) at h)
      | is_false y ↦ let w : n < 100 = ltb-true n 100 (rw (limit_is p n, z, y) at h) in omega arith
    ]

module _ (q : State) (k : ℕ) (new : Bool) where
  abbrev room : Bool
  room = ends_side k || under_limit (part_of q.part) q.count

  pub limits_full : room ≡ false → 6 ≡ first_failing 6 (limits_of q k new)
  unfolding limits_of first_failing
  limits_full e = rw e

  pub limits_old : room ≡ true → new ≡ false → 0 ≡ first_failing 6 (limits_of q k new)
  unfolding limits_of first_failing
  limits_old e f = rw (e, f)

  pub limits_right : room ≡ true → new ≡ true → q.part ≡ 4 → 7 ≡ first_failing 6 (limits_of q k new)
  unfolding limits_of first_failing
  limits_right e f g = rw (e, f, on_right_lem q.part, g)

  pub limits_left : room ≡ true → new ≡ true → (q.part ≡ 4 → ⊥) → q.number < 16 → 0 ≡ first_failing 6 (limits_of q k new)
  unfolding limits_of first_failing
  limits_left e f g h = rw (e, f, on_right_lem q.part, ne_eqb q.part 4 g, lt-ltb q.number 16 h)

  pub limits_many : room ≡ true → new ≡ true → (q.part ≡ 4 → ⊥) → 16 ≤ q.number → 6 ≡ first_failing 6 (limits_of q k new)
  unfolding limits_of first_failing
  limits_many e f g h = rw (e, f, on_right_lem q.part, ne_eqb q.part 4 g, le-ltb q.number 16 h)

-- ---- variables
module _ (k v : ℕ) where
  pub numbered_var : span 8 10 k ≡ true → leb v 15 ≡ implies (span 8 10 k) (leb v 15)
  numbered_var e = rw e

  pub numbered_plain : span 8 10 k ≡ false → true ≡ implies (span 8 10 k) (leb v 15)
  numbered_plain e = rw e

module _ (slots k v : ℕ) where
  pub fresh_plain : span 8 10 k ≡ false → false ≡ fresh slots k v
  unfolding fresh
  fresh_plain e = rw e

  pub fresh_high : 15 < v → false ≡ fresh slots k v
  unfolding fresh
  fresh_high h = rw (lt-leb v 15 h, and_false (span 8 10 k))

  pub fresh-not : (b : Bool) (j : ℕ) → b ≡ within slots j → j ≡ slot_of k v → span 8 10 k ≡ true → v ≤ 15 → not b ≡ fresh slots k v
  unfolding fresh
  fresh-not b j f g e h = rw (f, g, e, le-leb v 15 h)

-- ---- counting
pub side_field : (p : ℕ) → p ≡ 0 → eqb p 0 ≡ sided (part_of p)
side_field p e = rw (sided_is p, e)

pub side_else : (p : ℕ) → (p ≡ 0 → ⊥) → span 3 4 p ≡ sided (part_of p)
side_else p n = rw (sided_is p, ne_eqb p 0 n)

module _ (to k n : ℕ) where
  pub count_end : ends_side k ≡ true → 0 ≡ count_after (part_of to) k n
  unfolding count_after
  count_end e = rw e

  pub count_side : ends_side k ≡ false → sided (part_of to) ≡ true → n + 1 ≡ count_after (part_of to) k n
  unfolding count_after
  count_side e f = rw (e, f, add-one n)

  pub count_idle : ends_side k ≡ false → sided (part_of to) ≡ false → 0 ≡ count_after (part_of to) k n
  unfolding count_after
  count_idle e f = rw (e, f)

module _ (q : State) (k v to d : ℕ) (new : Bool) (n : ℕ) (en : n ≡ count_after (part_of to) k q.count) where
  pub moved_out : span 3 4 to ≡ false → record { part = to; depth = d; count = n; set = record { bits = 0 }; number = 0 } ≡ moved_to q k v to d new
  unfolding moved_to
  moved_out z = rw (en, z)

  pub moved_old : span 3 4 to ≡ true → new ≡ false → record { part = to; depth = d; count = n; set = q.set; number = q.number } ≡ moved_to q k v to d new
  unfolding moved_to
  moved_old z y = rw (en, z, y)

  pub moved_new : (j slots : ℕ) → span 3 4 to ≡ true → new ≡ true → j ≡ slot_of k v → slots ≡ joined q.set.bits j
      → record { part = to; depth = d; count = n; set = record { bits = slots }; number = q.number + 1 } ≡ moved_to q k v to d new
  unfolding moved_to
  moved_new j slots z y f g = rw (en, z, y, g, f)

-- ---- the end
module _ (p d n : ℕ) (st : List ℕ) (vs : List Element) where
  end_is : may_end (at (part_of p) (stack d st) n vs) ≡ cond (eqb p 0) (eqb d 0) (ltb 5 p)
  unfolding may_end
  end_is =
      by_part (λ q. may_end (at q (stack d st) n vs)) (λ m. cond (eqb m 0) (eqb d 0) (ltb 5 m)) (stack-empty d st) refl refl refl refl refl
      (λ m h. rw (ne_eqb m 0 (λ e. omega arith), lt-ltb 5 m h)) p

  pub end_field : p ≡ 0 → eqb d 0 ≡ may_end (at (part_of p) (stack d st) n vs)
  end_field e = rw (end_is, e)

  pub end_else : (p ≡ 0 → ⊥) → ltb 5 p ≡ may_end (at (part_of p) (stack d st) n vs)
  end_else f = rw (end_is, ne_eqb p 0 f)
