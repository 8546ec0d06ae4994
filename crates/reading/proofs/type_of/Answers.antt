use borrow.Author.Tests.{ne_eqb}
use Rattle.text.specs.Reading.{type_of}
use Rattle.reading.proofs.type_of.Goals as goal

pub returns-in-115 : goal.returns-in-115
unfolding type_of
returns-in-115 c = rw c.in-115.is

pub returns-in-116 : goal.returns-in-116
unfolding type_of
returns-in-116 c = rw c.in-116.is

pub returns-in_default : goal.returns-in_default
unfolding type_of
returns-in_default c = let ((u, a), b) = c.in_default.in_default-own.rest in rw (ne_eqb _ 115 a, ne_eqb _ 116 b)
