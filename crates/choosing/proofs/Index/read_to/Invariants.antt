use Prim.Native.Nat.{◌-◌}
use lib.ListN.{length}
use Rattle.choosing.specs.Choose.{Indexed}
use Rattle.choosing.proofs.Index.read_to.Given as goal

abbrev pub invariant-loop-c : goal.invariant-loop-c
invariant-loop-c l = Indexed l.program l.c.at l.self.spots

abbrev pub decreases-loop-c : goal.decreases-loop-c
decreases-loop-c l = length l.program - l.c.at
