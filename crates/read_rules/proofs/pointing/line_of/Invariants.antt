use Rattle.std.proofs.Common.{◌<◌, ◌≤◌}
use Rattle.read_rules.proofs.pointing.line_of.Given as goal

abbrev pub invariant-loop-at : goal.invariant-loop-at
invariant-loop-at l = (l.number ≤ l.at) × (l.start < l.at)
