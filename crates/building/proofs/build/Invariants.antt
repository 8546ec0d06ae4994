use Prim.Native.Nat.{◌-◌}
use Rattle.building.proofs.Filling.{Building}
use Rattle.building.proofs.build.Given as goal

abbrev pub invariant-loop-at : goal.invariant-loop-at
invariant-loop-at l = Building l.program l.side.from l.side.to l.arg l.binds l.initial.out l.start l.out l.at l.n

abbrev pub decreases-loop-at : goal.decreases-loop-at
decreases-loop-at l = l.side.to - l.at
