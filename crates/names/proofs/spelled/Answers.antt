use Rattle.names.proofs.Spelling.{spelled_out}
use Rattle.names.proofs.spelled.Goals as goal

pub returns-then-text-i : goal.returns-then-text-i
returns-then-text-i c = spelled_out c.args.text.now _ c.if-text-i.true
