use Prim.Native.Nat.{◌-◌}
use Rattle.elements.specs.Reading.{Characters}
use Rattle.elements.proofs.Cursor.past_characters.Given as goal

abbrev pub invariant-loop-at : goal.invariant-loop-at
invariant-loop-at l = Characters l.s l.stop l.to l.initial.at l.at

abbrev pub decreases-loop-at : goal.decreases-loop-at
decreases-loop-at l = l.to - l.at
