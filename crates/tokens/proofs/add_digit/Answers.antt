use Rattle.tokens.proofs.Digits.{over_by, under_by}
use Rattle.tokens.proofs.add_digit.Goals as goal

pub returns-then-w-gt4294967295 : goal.returns-then-w-gt4294967295
returns-then-w-gt4294967295 c = over_by _ _ _ c.digit.ensures.0 c.if-w-gt4294967295.true

pub returns-else-w-gt4294967295 : goal.returns-else-w-gt4294967295
returns-else-w-gt4294967295 c = under_by _ _ _ c.digit.ensures.0 c.if-w-gt4294967295.false
