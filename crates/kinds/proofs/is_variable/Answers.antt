use borrow.Author.Tests.{le-leb, lt-leb}
use Rattle.meaning.specs.Elements.{is_variable}
use Rattle.kinds.proofs.is_variable.Goals as goal

pub returns-then-kind-ge-S_VARIABLE : goal.returns-then-kind-ge-S_VARIABLE
unfolding is_variable
returns-then-kind-ge-S_VARIABLE c = rw (le-leb _ _ c.if-kind-ge-S_VARIABLE.true)

pub returns-else-kind-ge-S_VARIABLE : goal.returns-else-kind-ge-S_VARIABLE
unfolding is_variable
returns-else-kind-ge-S_VARIABLE c = rw (lt-leb _ _ c.if-kind-ge-S_VARIABLE.false)
