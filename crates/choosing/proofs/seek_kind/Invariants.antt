use Prim.Native.Nat.{◌-◌}
use lib.ListN.{length}
use Rattle.choosing.proofs.Rest.{Seeking}
use Rattle.choosing.proofs.seek_kind.Given as goal

abbrev pub invariant-loop-passed : goal.invariant-loop-passed
invariant-loop-passed l = Seeking l.program l.initial.c.at l.k l.c.at

abbrev pub decreases-loop-passed : goal.decreases-loop-passed
decreases-loop-passed l = length l.program - l.c.at
