use mathlib.Core.Logic.{⊎_elim}
use native.Mathlib.Omega.{arith}
use Rattle.taking.proofs.Opens.{paired_close, paired_none, paired_some}
use Rattle.taking.proofs.is_paired.Goals as goal

pub overflow_sub-result : goal.overflow_sub-result
overflow_sub-result c = ⊎_elim (λ e. omega arith) (λ e. omega arith) c.in-5.is

pub returns-in-5 : goal.returns-in-5
returns-in-5 c = paired_close _ _ _ _ c.top_of.ensures c.in-5.is

pub returns-then-depth-eq0 : goal.returns-then-depth-eq0
returns-then-depth-eq0 c = paired_none _ _ _ c.in_default.in_default-own.rest.1 c.if-depth-eq0.true

pub returns-else-depth-eq0 : goal.returns-else-depth-eq0
returns-else-depth-eq0 c = paired_some _ _ _ _ c.ends_side.ensures c.in_default.in_default-own.rest.1 c.if-depth-eq0.false
