use Rattle.tokens.proofs.Lexing.{name_told}
use Rattle.tokens.proofs.name.Goals as goal

pub returns : goal.returns
returns c = name_told _ _ c.identifier_end.ensures c.ending.ensures
