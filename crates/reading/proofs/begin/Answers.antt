use mathlib.Core.Path.{refl}
use Rattle.reading.specs.Reading.{begun}
use Rattle.reading.proofs.begin.Goals as goal

pub returns : goal.returns
unfolding begun
returns c = refl
