use Rattle.text.specs.Reading.{element}
use Rattle.putting.proofs.Putting.{led_able, going_from, going_bad, led, barred}
use native.Mathlib.Omega.{arith}
use Rattle.meaning.specs.Elements.{body}
use Rattle.putting.specs.Putting.{stops}
use Rattle.putting.proofs.Making.{onward_as, brace_other, brace_right, brace_then}
use Rattle.putting.proofs.put_brace.Goals as goal

pub put-requires : goal.put-requires
unfolding body
put-requires c = (c.requires, omega arith)

pub returns-then-reader-ne-RIGHT : goal.returns-then-reader-ne-RIGHT
returns-then-reader-ne-RIGHT c = onward_as (brace_other c.if-reader-ne-RIGHT.true) c.put.ensures

pub put-requires-2 : goal.put-requires-2
unfolding body
put-requires-2 c = (c.requires, omega arith)

pub returns-in_err-next : goal.returns-in_err-next
returns-in_err-next c =
    rw c.from_residual.ensures
    (onward_as (brace_right c.if-reader-ne-RIGHT.false) (stops (going_bad (going_from _ _ _ _) (barred c.in_err-next.ensures))))

pub put-requires-3 : goal.put-requires-3
unfolding body
put-requires-3 c = (led_able c.requires (led c.in_ok-next.ensures), omega arith)

pub returns : goal.returns
returns c =
    onward_as (brace_right c.if-reader-ne-RIGHT.false) (brace_then (element 12 0) (element 14 0) (led c.in_ok-next.ensures) c.put-3.ensures)
