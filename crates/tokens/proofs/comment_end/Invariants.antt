use mathlib.Core.Path.{◌≡◌}
use mathlib.Core.Bool.{false}
use Rattle.tokens.proofs.Comments.{Past}
use Rattle.tokens.proofs.comment_end.Given as goal

abbrev pub invariant-loop-i : goal.invariant-loop-i
invariant-loop-i l = Past l.s l.held l.i ≡ Past l.s false l.at
