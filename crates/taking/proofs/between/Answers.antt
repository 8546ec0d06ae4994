use Rattle.taking.proofs.Tests.{span_from, span_low}
use Rattle.taking.proofs.between.Goals as goal

pub returns-then-low-n : goal.returns-then-low-n
returns-then-low-n c = span_from _ _ _ c.if-low-n.true

pub returns-else-low-n : goal.returns-else-low-n
returns-else-low-n c = span_low _ _ _ c.if-low-n.false
