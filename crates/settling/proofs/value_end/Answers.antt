use Rattle.settling.proofs.Ends.{value_long, value_there, value_elsewhere}
use native.Mathlib.Omega.{arith}
use mathlib.Core.Path.{refl}
use Rattle.settling.proofs.value_end.Goals as goal

pub returns-then-arg-at : goal.returns-then-arg-at
returns-then-arg-at c = value_long _ _ _ c.requires.0 c.requires.1 c.if-arg-at.true

pub returns-then-equal_values : goal.returns-then-equal_values
returns-then-equal_values c =
    value_there _ _ _ c.requires.0 c.requires.1 _ refl (omega arith) (rw c.if-equal_values.true at c.equal_values.ensures)

pub returns-else-equal_values : goal.returns-else-equal_values
returns-else-equal_values c =
    value_elsewhere _ _ _ c.requires.0 c.requires.1 _ refl (rw c.if-equal_values.false at c.equal_values.ensures)
