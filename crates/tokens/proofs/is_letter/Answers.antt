use Rattle.tokens.proofs.Comments.{letter_yes, letter_no}
use Rattle.tokens.proofs.is_letter.Goals as goal

pub returns-in-Capital : goal.returns-in-Capital
returns-in-Capital c = letter_yes _ c.in-Capital.is

pub returns-in_default : goal.returns-in_default
returns-in_default c = letter_no _ c.in_default.not-Capital c.in_default.not-Small c.in_default.not-Typed
