use Rattle.kinds.specs.Slots.{joined}
use Rattle.kinds.proofs.Sets.{one_shifted}
use Rattle.kinds.proofs.Slots.with.Goals as goal

pub returns : goal.returns
unfolding joined
returns c = rw (one_shifted _ c.requires)
