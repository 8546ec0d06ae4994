use Rattle.building.proofs.Placing.{two_built}
use Rattle.building.proofs.fill.Goals as goal

pub returns : goal.returns
returns c =
    two_built _ _ _ _ _ _ _ _ c.requires.before.1 c.requires.behind.1 c.build-n.ensures.0 c.build-n.ensures.1 c.build-m.ensures.0
    c.build-m.ensures.1
