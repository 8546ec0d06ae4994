use native.Mathlib.Omega.{arith}
use Rattle.taking.proofs.Tests.{moved_out, moved_old, moved_new, told}
use Rattle.taking.proofs.state_after.Goals as goal

pub returns-then-not-between : goal.returns-then-not-between
returns-then-not-between c = moved_out _ _ _ _ _ _ _ c.count_after.ensures (told c.between.ensures c.if-not-between.true)

pub overflow_cast-number : goal.overflow_cast-number
overflow_cast-number c = omega (arith, (c.requires.1 c.if-new.true).2)

pub slot-requires : goal.slot-requires
slot-requires c =
    let n = c.requires.1 c.if-new.true in
    (n.0, n.1, n.2)

pub overflow_add-state : goal.overflow_add-state
overflow_add-state c = omega (arith, c.requires.1 c.if-new.true)

pub returns-then-new : goal.returns-then-new
returns-then-new c =
    moved_new _ _ _ _ _ _ _ c.count_after.ensures _ _ (told c.between.ensures c.if-not-between.false)
    c.if-new.true c.slot.ensures.0 c.with-state.ensures

pub returns-else-new : goal.returns-else-new
returns-else-new c =
    moved_old _ _ _ _ _ _ _ c.count_after.ensures (told c.between.ensures c.if-not-between.false) c.if-new.false
