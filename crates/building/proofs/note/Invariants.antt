use mathlib.Core.List.{List}
use Prim.Native.Nat.{ℕ, ◌-◌}
use Rattle.building.proofs.Filling.{Noting}
use Rattle.building.proofs.note.Given as goal

abbrev pub invariant-loop-i : goal.invariant-loop-i
invariant-loop-i l = (f : List ℕ) × Noting l.program l.side.from l.side.to f l.binds l.start l.initial.calls l.first l.calls l.i l.at l.k

abbrev pub decreases-loop-i : goal.decreases-loop-i
decreases-loop-i l = l.side.to - l.i
