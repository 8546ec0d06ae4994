use Rattle.settling.proofs.Ends.{meant_value}
use Rattle.settling.proofs.Values.meant.Goals as goal

pub returns-in-Some : goal.returns-in-Some
returns-in-Some c = meant_value _ _ _ _ _ c.in-Some.is c.value.ensures
