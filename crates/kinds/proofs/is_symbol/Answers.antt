use borrow.Author.Tests.{le-leb, lt-leb}
use Rattle.meaning.specs.Elements.{is_symbol}
use Rattle.kinds.proofs.is_symbol.Goals as goal

pub returns-then-kind-ge-CHARACTER : goal.returns-then-kind-ge-CHARACTER
unfolding is_symbol
returns-then-kind-ge-CHARACTER c = rw (le-leb _ _ c.if-kind-ge-CHARACTER.true)

pub returns-else-kind-ge-CHARACTER : goal.returns-else-kind-ge-CHARACTER
unfolding is_symbol
returns-else-kind-ge-CHARACTER c = rw (lt-leb _ _ c.if-kind-ge-CHARACTER.false)
