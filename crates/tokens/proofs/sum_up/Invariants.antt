use Rattle.tokens.proofs.Digits.{Adds}
use Rattle.tokens.proofs.sum_up.Given as goal

abbrev pub invariant-loop-i : goal.invariant-loop-i
invariant-loop-i l = Adds l.s l.at l.i l.value
