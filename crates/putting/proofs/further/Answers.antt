use mathlib.Core.Path.{refl}
use Rattle.putting.specs.Putting.{further_by}
use Rattle.putting.proofs.further.Goals as goal

pub returns : goal.returns
unfolding further_by
returns c = refl
