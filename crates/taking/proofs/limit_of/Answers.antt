use Rattle.taking.proofs.Tests.{limit_right, limit_else}
use Rattle.taking.proofs.limit_of.Goals as goal

pub returns-then-part-eq-RIGHT : goal.returns-then-part-eq-RIGHT
returns-then-part-eq-RIGHT c = λ n z. limit_right _ n c.if-part-eq-RIGHT.true

pub returns-else-part-eq-RIGHT : goal.returns-else-part-eq-RIGHT
returns-else-part-eq-RIGHT c = λ n z. limit_else _ n z c.if-part-eq-RIGHT.false
