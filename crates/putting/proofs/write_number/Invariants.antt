use mathlib.Core.Path.{◌≡◌}
use Prim.Native.Nat.{◌+◌, ◌-◌}
use lib.ListN.{length}
use lib.Seq.{sets}
use Rattle.elements.specs.Bytes.{digits}
use Rattle.putting.proofs.write_number.Given as goal

abbrev pub invariant-loop-i : goal.invariant-loop-i
invariant-loop-i l = (sets l.buf (l.at + l.i) (digits (l.n - l.i) l.rest) ≡ sets l.initial.buf l.at (digits l.n l.number)) × (length l.buf ≡ length l.initial.buf)
