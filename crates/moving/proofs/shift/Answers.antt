use Rattle.moving.proofs.Moves.{stayed}
use Rattle.moving.proofs.shift.Goals as goal

pub returns-else-from-at : goal.returns-else-from-at
returns-else-from-at c = stayed _ _ _ c.args.n c.if-from-at.false
