use Rattle.putting.specs.Putting.{phase_next}
use borrow.Author.Tests.{ne_eqb}
use Rattle.putting.proofs.phase_after.Goals as goal

pub returns-in-13 : goal.returns-in-13
unfolding phase_next
returns-in-13 c = rw c.in-13.is

pub returns-in-14 : goal.returns-in-14
unfolding phase_next
returns-in-14 c = rw c.in-14.is

pub returns-in_default : goal.returns-in_default
unfolding phase_next
returns-in_default c = let ((u, a), b) = c.in_default.in_default-own.rest in rw (ne_eqb _ 13 a, ne_eqb _ 14 b)
