use mathlib.Core.Path.{◌≡◌}
use Prim.Native.Nat.{◌-◌}
use lib.ListN.{length}
use Rattle.putting.specs.Putting.{Able, Going, Closes, elements_at}
use Rattle.putting.proofs.put_characters.Given as goal

abbrev pub invariant-loop-i : goal.invariant-loop-i
invariant-loop-i l =
    Going (elements_at l.text l.quote l.from) (elements_at l.text l.quote l.i) l.initial.at l.initial.stack l.initial.buf l.at l.stack l.buf × Closes l.text l.quote l.i l.last × Able l.initial.at l.initial.stack l.initial.buf
    × (length l.stack ≡ length l.initial.stack) × (length l.buf ≡ length l.initial.buf)

abbrev pub decreases-loop-i : goal.decreases-loop-i
decreases-loop-i l = l.last - l.i
