use Rattle.taking.proofs.Tests.{told, numbered_var, numbered_plain}
use Rattle.meaning.specs.Elements.{is_variable}
use Rattle.meaning.specs.Goodness.{span}
use Rattle.taking.proofs.is_numbered.Goals as goal

pub returns-then-is_variable : goal.returns-then-is_variable
unfolding is_variable span
returns-then-is_variable c = numbered_var c.args.kind c.args.number (told c.is_variable.ensures c.if-is_variable.true)

pub returns-else-is_variable : goal.returns-else-is_variable
unfolding is_variable span
returns-else-is_variable c = numbered_plain c.args.kind c.args.number (told c.is_variable.ensures c.if-is_variable.false)
