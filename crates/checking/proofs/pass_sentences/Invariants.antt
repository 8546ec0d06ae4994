use Prim.Native.Nat.{◌-◌, ◌≤◌}
use mathlib.Core.Path.{◌≡◌}
use lib.ListN.{length}
use Rattle.checking.specs.Passing.{Onward}
use Rattle.checking.proofs.pass_sentences.Given as goal

abbrev pub invariant-loop-stack : goal.invariant-loop-stack
invariant-loop-stack l =
    (length l.stack ≡ length l.initial.stack) × (l.initial.at.at ≤ l.at.at) × Onward l.bytes l.initial.at.at l.initial.state l.initial.stack l.at.at l.state l.stack

abbrev pub decreases-loop-stack : goal.decreases-loop-stack
decreases-loop-stack l = length l.bytes - l.at.at
