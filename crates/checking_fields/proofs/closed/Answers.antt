use mathlib.Core.Path.{sym, ◌∙◌}
use borrow.Author.Rules.{rules}
use Rattle.kinds.proofs.Stacks.{top_deep}
use Rattle.checking_fields.specs.Fields.{closes, stays}
use Rattle.checking_fields.proofs.closed.Goals as goal

pub overflow_sub-result : goal.overflow_sub-result
overflow_sub-result c = top_deep _ _ c.top_of.ensures (search rules)

pub returns-then-top_of-opening : goal.returns-then-top_of-opening
returns-then-top_of-opening c = closes (sym c.top_of.ensures ∙ c.if-top_of-opening.true)

pub returns-else-top_of-opening : goal.returns-else-top_of-opening
returns-else-top_of-opening c = stays (λ e. c.if-top_of-opening.false (c.top_of.ensures ∙ e))
