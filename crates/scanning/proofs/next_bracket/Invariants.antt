use Prim.Native.Nat.{◌-◌}
use lib.ListN.{length}
use Rattle.scanning.proofs.Scan.{Seeking}
use Rattle.scanning.proofs.next_bracket.Given as goal

abbrev pub invariant-loop-c : goal.invariant-loop-c
invariant-loop-c l = Seeking l.field l.at l.c.at

abbrev pub decreases-loop-c : goal.decreases-loop-c
decreases-loop-c l = length l.field - l.c.at
