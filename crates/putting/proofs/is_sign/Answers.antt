use borrow.Enum.Refused.{opened}
use Rattle.putting.proofs.Making.{not_sign, is_the_sign}
use Rattle.putting.proofs.is_sign.Goals as goal

pub returns-in-Sign : goal.returns-in-Sign
returns-in-Sign c = λ s at e. is_the_sign s at _ _ _ c.in-Sign.is e

pub returns-in_default : goal.returns-in_default
returns-in_default c = λ s at e. not_sign s at _ _ (opened c.in_default.in_default-own.keys2)
