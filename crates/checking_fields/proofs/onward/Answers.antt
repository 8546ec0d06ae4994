use Rattle.elements.specs.Reading.{no_more}
use Rattle.checking_fields.proofs.onward.Goals as goal

pub returns-in_default : goal.returns-in_default
returns-in_default c = no_more
