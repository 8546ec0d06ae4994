use native.Mathlib.Omega.{arith}
use Rattle.elements.proofs.Values.{compare_proper, compare_on, compare_lost, lengths_differ}
use Rattle.elements.proofs.equal_values.Goals as goal

pub returns-then-a-b : goal.returns-then-a-b
returns-then-a-b c = lengths_differ _ _ c.if-a-b.true

pub shared_end-requires : goal.shared_end-requires
shared_end-requires c = (compare_proper _ _ _ c.loop-at.invariant c.loop-at-test.true, omega (arith, c.loop-at.invariant.long))

pub shared_characters-at-requires-in-loop-at : goal.shared_characters-at-requires-in-loop-at
shared_characters-at-requires-in-loop-at c = compare_on _ _ _ _ c.loop-at.invariant c.in-Some.ensures

pub returns-in_default : goal.returns-in_default
returns-in_default c = compare_lost _ _ _ c.in_default.ensures
