use mathlib.Core.Path.{◌≡◌}
use Prim.Native.Nat.{◌-◌}
use lib.ListN.{length}
use Rattle.meaning.specs.Goodness.{bad_program}
use Rattle.checking.specs.Passing.{Reading}
use Rattle.checking.proofs.pass_program.Given as goal

abbrev pub invariant-loop-at : goal.invariant-loop-at
invariant-loop-at l =
    Reading (bad_program l.program) l.program l.at.at l.state l.stack × (length l.stack ≡ length l.initial.stack)

abbrev pub decreases-loop-at : goal.decreases-loop-at
decreases-loop-at l = length l.program - l.at.at
