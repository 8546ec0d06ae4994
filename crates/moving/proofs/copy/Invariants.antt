use Rattle.std.proofs.Common.{◌≡◌, length, drop}
use Rattle.std.proofs.Math.Seq.{paste}
use Rattle.moving.proofs.copy.Given as goal

abbrev pub invariant-loop-i : goal.invariant-loop-i
invariant-loop-i l = (length l.dst ≡ length l.initial.dst) × (l.dst ≡ paste l.initial.dst l.at (drop l.from l.src) l.i)
