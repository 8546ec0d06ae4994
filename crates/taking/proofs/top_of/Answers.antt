use Rattle.kinds.proofs.Stacks.{top_none, top_some}
use Rattle.taking.proofs.top_of.Goals as goal

pub returns-then-depth-eq0 : goal.returns-then-depth-eq0
returns-then-depth-eq0 c = top_none _ _ c.if-depth-eq0.true

pub returns-else-depth-eq0 : goal.returns-else-depth-eq0
returns-else-depth-eq0 c = top_some _ _ c.if-depth-eq0.false
