use mathlib.Core.Path.{◌≡◌}
use Prim.Native.Nat.{◌-◌}
use lib.ListN.{length}
use Rattle.checking_fields.proofs.Fields.{InField}
use Rattle.checking_fields.proofs.pass_field.Given as goal

abbrev pub invariant-loop-c : goal.invariant-loop-c
invariant-loop-c l = InField l.field l.stack l.c.at l.depth × (length l.stack ≡ length l.initial.stack)

abbrev pub decreases-loop-c : goal.decreases-loop-c
decreases-loop-c l = length l.field - l.c.at
