use mathlib.Core.Path.{refl}
use Rattle.desk.proofs.Calls.{call_alters_nothing, call_runs, not_paused, is_paused}
use Rattle.desk.proofs.call.Goals as goal

pub returns-then-ne : goal.returns-then-ne
returns-then-ne c = call_alters_nothing _ _ _ _ _ refl (not_paused _ c.if-ne.ensures)

pub returns : goal.returns
returns c = rw c.from.ensures (call_runs _ _ _ _ _ refl (is_paused _ c.if-ne.ensures) c.run-answer.ensures)
