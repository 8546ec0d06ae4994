use mathlib.Core.Path.{◌≡◌}
use Prim.Native.Nat.{◌+◌}
use lib.ListN.{length, drop}
use Rattle.text.specs.Classes.{of, front}
use Rattle.classes.proofs.run_end.Given as goal

abbrev pub invariant-loop-i : goal.invariant-loop-i
invariant-loop-i l = l.i + length (front (of l.lo l.hi) (drop l.i l.s)) ≡ l.from + length (front (of l.lo l.hi) (drop l.from l.s))
