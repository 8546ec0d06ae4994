use Prim.Native.Nat.{◌-◌}
use lib.ListN.{length}
use Rattle.elements.proofs.Levels.{Seeking}
use Rattle.elements.proofs.shut_end.Given as goal

abbrev pub invariant-loop-depth : goal.invariant-loop-depth
invariant-loop-depth l = Seeking l.s l.at l.c.at l.depth

abbrev pub decreases-loop-depth : goal.decreases-loop-depth
decreases-loop-depth l = length l.s - l.c.at
