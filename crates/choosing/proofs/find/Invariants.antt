use mathlib.Core.List.{◌∷◌, []}
use Prim.Native.Nat.{◌-◌}
use lib.ListN.{length}
use Rattle.choosing.proofs.Rest.{Finding}
use Rattle.choosing.proofs.find.Given as goal

abbrev pub invariant-loop-c : goal.invariant-loop-c
invariant-loop-c l = Finding l.program (l.lo ∷ l.hi ∷ []) l.c.at

abbrev pub decreases-loop-c : goal.decreases-loop-c
decreases-loop-c l = length l.program - l.c.at
