use mathlib.Core.Path.{◌≡◌}
use Prim.Native.Nat.{◌-◌, ◌≤◌}
use lib.ListN.{length}
use Rattle.checking.specs.Passing.{Onward}
use Rattle.checking.proofs.pass_side.Given as goal

abbrev pub invariant-loop-state : goal.invariant-loop-state
invariant-loop-state l =
    (l.state.part ≡ l.initial.state.part) × (l.initial.at.at ≤ l.at.at) × (length l.stack ≡ length l.initial.stack) × Onward l.bytes l.initial.at.at l.initial.state l.initial.stack l.at.at l.state l.stack

abbrev pub decreases-loop-state : goal.decreases-loop-state
decreases-loop-state l = length l.bytes - l.at.at
