use mathlib.Core.Path.{sym, ◌∙◌}
use Rattle.tokens.proofs.Lexing.{call_none, call_some}
use Rattle.tokens.proofs.call.Goals as goal

pub returns-in_default : goal.returns-in_default
returns-in_default c = call_none c.args.s.now c.args.at (sym c.in_default.is ∙ c.identifier_end.ensures) c.spanning.ensures

pub returns : goal.returns
returns c = call_some c.args.s.now c.args.at (sym c.in-Some.is ∙ c.identifier_end.ensures) c.spanning-2.ensures
