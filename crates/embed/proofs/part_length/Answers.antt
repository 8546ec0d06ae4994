use mathlib.Core.Path.{ap, ◌∙◌}
use lib.ListN.{length}
use Rattle.embed.proofs.part_length.Goals as goal

pub returns : goal.returns
returns c = ap length (c.pointer.ensures ∙ c.coded.ensures _ _ _ _)
