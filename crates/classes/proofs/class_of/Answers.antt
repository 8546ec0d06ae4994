use borrow.Author.Rules.{rules}
use Rattle.classes.proofs.Bytes.{the_table}
use Rattle.classes.proofs.class_of.Goals as goal

pub returns : goal.returns
returns c = the_table.rule c.args.b (search rules)
