use Rattle.putting.specs.Putting.{kept_count}
use borrow.Author.Tests.{ne_eqb}
use Rattle.putting.proofs.kept.Goals as goal

pub returns-in-13 : goal.returns-in-13
unfolding kept_count
returns-in-13 c = rw c.in-13.is

pub returns-in-12 : goal.returns-in-12
unfolding kept_count
returns-in-12 c = rw c.in-12.is

pub returns-in_default : goal.returns-in_default
unfolding kept_count
returns-in_default c = let ((u, a), b) = c.in_default.in_default-own.rest in rw (ne_eqb _ 13 a, ne_eqb _ 12 b)
