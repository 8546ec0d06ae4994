use Rattle.matching.proofs.Whole.{starting, matched}
use Rattle.matching.proofs.match_left.Goals as goal

pub match_rest-requires : goal.match_rest-requires
match_rest-requires c = starting c.requires

pub returns : goal.returns
returns c = matched _ _ _ _ c.match_rest.ensures
