use Rattle.building.proofs.Placing.{put_in_all}
use Rattle.building.proofs.put_in.Goals as goal

pub returns : goal.returns
returns c =
    put_in_all _ _ _ _ _ _ _ c.requires.0 c.requires.1 c.requires.2 c.requires.3 c.requires.4 _ _ _ c.shift.ensures c.copy.ensures c.copy-2.ensures
