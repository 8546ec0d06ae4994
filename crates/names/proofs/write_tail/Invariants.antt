use mathlib.Core.Path.{◌≡◌}
use Prim.Native.Nat.{◌+◌, ◌-◌}
use lib.ListN.{length, drop}
use lib.Seq.{sets}
use Rattle.text.specs.Tokens.{tail_of}
use Rattle.names.proofs.Writing.{Owes}
use Rattle.names.proofs.write_tail.Given as goal

abbrev pub invariant-loop-i : goal.invariant-loop-i
invariant-loop-i l =
    Owes l.list (l.start + l.i - l.from) (tail_of (drop l.i l.text)) (sets l.initial.list l.start (tail_of (drop l.from l.text))) × (length l.list ≡ length l.initial.list)
