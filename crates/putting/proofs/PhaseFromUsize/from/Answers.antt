use borrow.Author.Tests.{ne_eqb}
use Rattle.putting.specs.Putting.{phase_numbered}
use Rattle.putting.proofs.PhaseFromUsize.from.Goals as goal

pub returns-in-1 : goal.returns-in-1
unfolding phase_numbered
returns-in-1 c = rw c.in-1.is

pub returns-in-2 : goal.returns-in-2
unfolding phase_numbered
returns-in-2 c = rw c.in-2.is

pub returns-in-3 : goal.returns-in-3
unfolding phase_numbered
returns-in-3 c = rw c.in-3.is

pub returns-in-4 : goal.returns-in-4
unfolding phase_numbered
returns-in-4 c = rw c.in-4.is

pub returns-in_default : goal.returns-in_default
unfolding phase_numbered
returns-in_default c =
    let ((((u, a), b), d), e) = c.in_default.in_default-own.rest in
    rw (ne_eqb _ 1 a, ne_eqb _ 2 b, ne_eqb _ 3 d, ne_eqb _ 4 e)
