use Rattle.taking.proofs.Tests.{ends_left, ends_else}
use Rattle.taking.proofs.ends_side.Goals as goal

pub returns-then-kind-eq-EQUALS : goal.returns-then-kind-eq-EQUALS
returns-then-kind-eq-EQUALS c = ends_left _ c.if-kind-eq-EQUALS.true

pub returns-else-kind-eq-EQUALS : goal.returns-else-kind-eq-EQUALS
returns-else-kind-eq-EQUALS c = ends_else _ c.if-kind-eq-EQUALS.false
