use Rattle.elements.specs.Reading.{depth_after}
use borrow.Author.Tests.{ne_eqb}
use native.Mathlib.Omega.{arith}
use Rattle.elements.proofs.depth_after.Goals as goal

pub returns-in-4 : goal.returns-in-4
unfolding depth_after
returns-in-4 c = rw c.in-4.is

pub returns-in-5 : goal.returns-in-5
unfolding depth_after
returns-in-5 c = rw c.in-5.is

pub returns-in_default : goal.returns-in_default
unfolding depth_after
returns-in_default c = rw (ne_eqb c.args.k 4 (λ q. omega arith), ne_eqb c.args.k 5 (λ q. omega arith))
