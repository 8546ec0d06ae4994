use native.Mathlib.Omega.{arith}
use Rattle.taking.proofs.Tests.{told, count_end, count_side, count_idle}
use Rattle.taking.proofs.count_after.Goals as goal

pub returns-then-ends_side : goal.returns-then-ends_side
returns-then-ends_side c = count_end _ _ _ (told c.ends_side.ensures c.if-ends_side.true)

pub overflow_add-result : goal.overflow_add-result
overflow_add-result c = omega (arith, c.requires (told c.ends_side.ensures c.if-ends_side.false))

pub returns-then-is_side : goal.returns-then-is_side
returns-then-is_side c =
    count_side _ _ _ (told c.ends_side.ensures c.if-ends_side.false) (told c.is_side.ensures c.if-is_side.true)

pub returns-else-is_side : goal.returns-else-is_side
returns-else-is_side c =
    count_idle _ _ _ (told c.ends_side.ensures c.if-ends_side.false) (told c.is_side.ensures c.if-is_side.false)
