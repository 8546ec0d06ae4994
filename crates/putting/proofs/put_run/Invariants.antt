use mathlib.Core.Path.{◌≡◌}
use Prim.Native.Nat.{◌+◌}
use lib.ListN.{length}
use Rattle.putting.specs.Putting.{Runs, further_by}
use Rattle.putting.proofs.put_run.Given as goal

abbrev pub invariant-loop-k : goal.invariant-loop-k
invariant-loop-k l = Runs l.text l.quote l.last l.from l.reader l.initial.buf (l.from + l.k) (further_by l.reader l.k) l.buf × (length l.buf ≡ length l.initial.buf)
