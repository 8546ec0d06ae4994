use Rattle.tokens.proofs.Comments.{index_yes, index_no}
use Rattle.tokens.proofs.is_index.Goals as goal

pub returns-in-Capital : goal.returns-in-Capital
returns-in-Capital c = index_yes _ c.in-Capital.is

pub returns-in_default : goal.returns-in_default
returns-in_default c = index_no _ c.in_default.not-Capital c.in_default.not-Digit
