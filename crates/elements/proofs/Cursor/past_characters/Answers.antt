use Rattle.elements.specs.Reading.{no_more, one_more}
use native.Mathlib.Omega.{arith}
use Rattle.elements.proofs.Cursor.past_characters.Goals as goal

pub loop-at-init : goal.loop-at-init
loop-at-init c = no_more

pub returns-then-s-at-ne-CHARACTER : goal.returns-then-s-at-ne-CHARACTER
returns-then-s-at-ne-CHARACTER c = c.loop-at.invariant

pub returns-then-s-at : goal.returns-then-s-at
returns-then-s-at c = c.loop-at.invariant

pub loop-at-preserved : goal.loop-at-preserved
loop-at-preserved c = one_more c.loop-at.invariant (omega arith) c.if-s-at-ne-CHARACTER.false c.if-s-at.false
