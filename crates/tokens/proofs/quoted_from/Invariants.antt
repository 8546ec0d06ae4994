use lib.ListN.{length}
use mathlib.Core.Bool.{false}
use Prim.Native.Nat.{◌-◌}
use Rattle.tokens.proofs.Strings.{Closing, Stands}
use Rattle.tokens.proofs.quoted_from.Given as goal

abbrev pub invariant-loop-i : goal.invariant-loop-i
invariant-loop-i l = Stands l.s l.q l.i l.characters (Closing l.s l.q false l.at 0)

abbrev pub decreases-loop-i : goal.decreases-loop-i
decreases-loop-i l = length l.s - l.i
