use Rattle.settling.proofs.Next.{left_proper, named_at, item_fixed, item_named, item_bytes}
use Rattle.elements.proofs.Places.{proper_splits}
use native.Mathlib.Omega.{arith}
use Rattle.settling.proofs.item_at.Goals.{then-passed-lt-S_VARIABLE, else-passed-lt-S_VARIABLE}
use Rattle.settling.proofs.item_at.Goals as goal

pub bounds-left-at : goal.bounds-left-at
bounds-left-at c = (named_at c.requires (omega (arith, c.pass-passed.ensures.kind_is))).long

pub slot-requires : goal.slot-requires
slot-requires c =
    let n = named_at c.requires (omega (arith, c.pass-passed.ensures.kind_is)) in
    (omega arith, omega (arith, c.pass-passed.ensures.kind_is, n.v.high), n.v.small)

pub slice_bounds-result-end : goal.slice_bounds-result-end
slice_bounds-result-end c = rw c.pass-passed.ensures.next_is (proper_splits (left_proper c.requires)).fits

pub returns : goal.returns
returns c =
    let q = c.pass-passed.ensures.next_is in
    let k = c.pass-passed.ensures.kind_is in
    rw (item_bytes c.requires q) (elim c.if-passed-lt-S_VARIABLE.branch [
      | then-passed-lt-S_VARIABLE w ↦ rw w.slot-is (item_fixed c.requires (omega (arith, k, w.if-passed-lt-S_VARIABLE.true)) q)
      | else-passed-lt-S_VARIABLE w ↦ rw w.slot-is (item_named c.requires (omega (arith, k, w.if-passed-lt-S_VARIABLE.false)) q (omega (arith, k, w.slot.ensures.0)))
    ])
