use Rattle.choosing.proofs.Rest.{bytes_told, low_byte}
use Rattle.choosing.proofs.is_name.Goals as goal

pub returns-then-number-lo : goal.returns-then-number-lo
returns-then-number-lo c = λ e. c.if-number-lo.true (low_byte _ _ _ e)

pub returns : goal.returns
returns c = bytes_told _ _ _ c.requires c.if-number-lo.false
