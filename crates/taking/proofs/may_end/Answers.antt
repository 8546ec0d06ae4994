use Rattle.taking.proofs.Tests.{end_field, end_else}
use Rattle.taking.proofs.may_end.Goals as goal

pub returns-then-state-eq-FIELD : goal.returns-then-state-eq-FIELD
returns-then-state-eq-FIELD c = λ st vs. end_field _ _ _ st vs c.if-state-eq-FIELD.true

pub returns : goal.returns
returns c = λ st vs. end_else _ _ _ st vs c.if-state-eq-FIELD.false
