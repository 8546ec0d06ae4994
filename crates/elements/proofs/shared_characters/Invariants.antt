use Rattle.elements.specs.Reading.{Comparing}
use lib.ListN.{length}
use Prim.Native.Nat.{◌-◌, ◌≤◌}
use Rattle.elements.proofs.shared_characters.Given as goal

abbrev pub invariant-loop-i : goal.invariant-loop-i
invariant-loop-i l = Comparing l.a l.b l.i × (l.at ≤ l.i)

abbrev pub decreases-loop-i : goal.decreases-loop-i
decreases-loop-i l = length l.a - l.i
