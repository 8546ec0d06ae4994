use mathlib.Core.Path.{◌∙◌}
use Rattle.classes.specs.declared.Class.TheVariants.{LineEnd}
use Rattle.classes.proofs.Order.{eq_by}
use Rattle.tokens.specs.Lexemes.{column_at}
use Rattle.tokens.proofs.Lexing.{column_later}
use Rattle.tokens.proofs.starts_line.Goals as goal

pub returns-then-at-eq0 : goal.returns-then-at-eq0
unfolding column_at
returns-then-at-eq0 c = rw c.if-at-eq0.true

pub returns-else-at-eq0 : goal.returns-else-at-eq0
returns-else-at-eq0 c = eq_by _ LineEnd c.eq.ensures ∙ column_later _ _ _ c.if-at-eq0.false c.class_of.ensures
