use mathlib.Core.Path.{◌∙◌}
use Rattle.taking.proofs.Tests.{side_field, side_else}
use Rattle.taking.proofs.is_side.Goals as goal

pub returns-then-part-eq-FIELD : goal.returns-then-part-eq-FIELD
returns-then-part-eq-FIELD c = side_field _ c.if-part-eq-FIELD.true

pub returns-else-part-eq-FIELD : goal.returns-else-part-eq-FIELD
returns-else-part-eq-FIELD c = c.between.ensures ∙ side_else _ c.if-part-eq-FIELD.false
