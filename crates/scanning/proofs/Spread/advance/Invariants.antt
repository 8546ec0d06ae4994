use Rattle.scanning.proofs.Scan.{Advancing}
use Prim.Native.Nat.{◌-◌}
use lib.ListN.{length}
use Rattle.scanning.proofs.Spread.advance.Given as goal

abbrev pub invariant-loop-at : goal.invariant-loop-at
invariant-loop-at l = Advancing l.initial.field l.initial.s.lo l.initial.s.hi l.initial.calls l.field l.s.lo l.s.hi l.s.read l.s.depth l.s.top l.calls

abbrev pub decreases-loop-at : goal.decreases-loop-at
decreases-loop-at l = length l.field - l.s.hi
