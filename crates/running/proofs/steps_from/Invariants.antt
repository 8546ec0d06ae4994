use mathlib.Core.Path.{◌≡◌}
use Prim.Native.Nat.{◌-◌}
use lib.ListN.{length}
use Rattle.meaning.specs.Machine.{run}
use Rattle.scanning.specs.State.{field_at}
use Rattle.choosing.specs.Choose.{rest_of, Cache}
use Rattle.running.specs.Running.{Between}
use Rattle.running.proofs.steps_from.Given as goal

abbrev pub invariant-loop-at : goal.invariant-loop-at
invariant-loop-at l = record {
  same : length l.field ≡ length l.initial.field;
  room : length l.scratch ≡ length l.initial.scratch;
  notes : length l.calls ≡ length l.initial.calls;
  cache : Cache l.program l.index;
  between : Between l.program (length l.initial.field) l.budget (run (rest_of l.program 0) (length l.initial.field) l.budget 0 (field_at l.initial.field l.initial.s.lo l.initial.s.hi))
      l.field l.calls l.s.lo l.s.hi l.s.read l.s.depth l.s.top l.steps;
}

abbrev pub decreases-loop-at : goal.decreases-loop-at
decreases-loop-at l =
    l.budget - l.steps
