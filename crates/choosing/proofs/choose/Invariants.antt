use Prim.Native.Nat.{◌-◌}
use lib.ListN.{length}
use Rattle.meaning.specs.Elements.{elements}
use Rattle.choosing.proofs.Sentences.{Choosing}
use Rattle.choosing.proofs.choose.Given as goal

abbrev pub invariant-loop-c : goal.invariant-loop-c
invariant-loop-c l = Choosing l.program l.initial.c.at (elements l.arg) l.c.at

abbrev pub decreases-loop-c : goal.decreases-loop-c
decreases-loop-c l = length l.program - l.c.at
