use Rattle.foreseeing.specs.Foresight.{early, late, other_kind, other_second, may, may_not}
use Rattle.foreseeing.proofs.Foreseen.{third_told}
use native.Mathlib.Omega.{arith}
use mathlib.Core.Path.{refl}
use lib.Dec.{leb}
use borrow.Author.Tests.{lt-leb, leb-false}
use Rattle.meaning.proofs.Truth.{never, is_true, is_false, see}
use Rattle.std.proofs.lemmas.Option.{slice_get_within, get_or_from_slice_get}
use Rattle.foreseeing.proofs.can_end.Goals.{then-arg-at-via-then-arg-at, then-arg-at-via-else-arg-at+then-arg-at-2}
use Rattle.foreseeing.proofs.can_end.Goals as goal

pub returns-then-w-at : goal.returns-then-w-at
returns-then-w-at c =
    elim (see (leb c.args.at c.args.w.latest)) [
      | is_true z ↦ rw z may
      | is_false z ↦ rw z (may_not (late (leb-false _ _ z)))
    ]

pub returns-else-w-at : goal.returns-else-w-at
returns-else-w-at c = rw (lt-leb _ _ c.if-w-at.false) (may_not (early c.if-w-at.false))

pub returns-then-arg-at : goal.returns-then-arg-at
returns-then-arg-at c =
    elim c.then-arg-at.branch [
      | then-arg-at-via-then-arg-at w ↦ may_not (other_kind c.in-Some.is (λ q. never (let l = slice_get_within c.args.arg.now c.args.at c.in-Some.first q in let h = w.if-arg-at.true in omega arith)))
      | then-arg-at-via-else-arg-at+then-arg-at-2 w ↦ may_not (other_kind c.in-Some.is (λ q. w.if-arg-at-2.true (get_or_from_slice_get c.args.arg.now c.args.at c.in-Some.first 0 q)))
    ]

pub returns-then-arg-at-lt3 : goal.returns-then-arg-at-lt3
returns-then-arg-at-lt3 c = may

pub returns : goal.returns
returns c = may_not (other_second c.in-Some-second.is (rw c.in-Some.is refl) c.if-arg-at-3.true)

pub returns-in-Some-third : goal.returns-in-Some-third
returns-in-Some-third c = third_told (rw c.in-Some.is refl) c.in-Some-third.is

pub returns-in-None : goal.returns-in-None
returns-in-None c = may
