use Rattle.taking.proofs.Opens.{close_some, one_opens, one_closes, none_moves}
use Rattle.taking.proofs.brackets_after.Goals as goal

pub overflow_sub-result : goal.overflow_sub-result
overflow_sub-result c = close_some _ _ _ c.in-5.is c.requires.1

pub returns-in-4 : goal.returns-in-4
returns-in-4 c = one_opens _ _ _ c.in-4.is

pub returns-in-5 : goal.returns-in-5
returns-in-5 c = one_closes _ _ _ c.in-5.is

pub returns-in_default : goal.returns-in_default
returns-in_default c = none_moves _ _ _ c.in_default.in_default-own.rest.0.1 c.in_default.in_default-own.rest.1
