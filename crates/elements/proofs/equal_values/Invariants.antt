use Rattle.elements.specs.Reading.{Comparing}
use lib.ListN.{length}
use Prim.Native.Nat.{◌-◌}
use Rattle.elements.proofs.equal_values.Given as goal

abbrev pub invariant-loop-at : goal.invariant-loop-at
invariant-loop-at l = Comparing l.a l.b l.at

abbrev pub decreases-loop-at : goal.decreases-loop-at
decreases-loop-at l = length l.a - l.at
