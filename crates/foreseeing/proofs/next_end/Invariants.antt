use Rattle.foreseeing.specs.Foresight.{Skipped}
use lib.ListN.{length}
use Prim.Native.Nat.{◌-◌}
use Rattle.foreseeing.proofs.next_end.Given as goal

abbrev pub invariant-loop-w : goal.invariant-loop-w
invariant-loop-w l = Skipped l.w l.arg l.at l.i

abbrev pub decreases-loop-w : goal.decreases-loop-w
decreases-loop-w l = length l.arg - l.i
