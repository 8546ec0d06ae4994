use mathlib.Core.Path.{refl}
use Rattle.kinds.specs.Slots.{within}
use Rattle.kinds.proofs.Slots.has.Goals as goal

pub returns : goal.returns
unfolding within
returns c = refl
