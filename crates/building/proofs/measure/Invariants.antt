use mathlib.Core.List.{List}
use Prim.Native.Nat.{ℕ, ◌-◌}
use Rattle.building.proofs.Filling.{Measuring}
use Rattle.building.proofs.measure.Given as goal

abbrev pub invariant-loop-at : goal.invariant-loop-at
invariant-loop-at l = (f : List ℕ) × Measuring l.program l.side.from l.side.to f l.binds l.limit l.at l.size l.calls l.best.at

abbrev pub decreases-loop-at : goal.decreases-loop-at
decreases-loop-at l = l.side.to - l.at
