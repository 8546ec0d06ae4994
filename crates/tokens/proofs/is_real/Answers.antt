use mathlib.Core.Path.{◌∙◌}
use Rattle.classes.specs.declared.Class.TheVariants.{Digit}
use Rattle.classes.proofs.Order.{eq_by}
use Rattle.tokens.proofs.Comments.{real_out, real_last, real_no, real_mark}
use Rattle.tokens.proofs.is_real.Goals as goal
use Rattle.tokens.proofs.is_real.Goals.{then-s-at-via-then-s-at, then-s-at-via-else-s-at+then-s-at-2, in-46, in_default}

pub returns-then-s-at : goal.returns-then-s-at
returns-then-s-at c =
    elim c.then-s-at.branch [
      | then-s-at-via-then-s-at w ↦ real_out _ _ w.if-s-at.true
      | then-s-at-via-else-s-at+then-s-at-2 w ↦ real_last _ _ w.if-s-at.false w.if-s-at-2.true
    ]

pub returns-then-matches : goal.returns-then-matches
returns-then-matches c =
    elim c.match-matches.branch [
      | in-46 w ↦ eq_by _ Digit c.eq.ensures ∙ real_mark _ _ c.if-s-at-2.false w.in-46.is _ c.class_of.ensures
      | in_default w ↦ cc (w.matches-is, c.if-matches.true)
    ]

pub returns-else-matches : goal.returns-else-matches
returns-else-matches c =
    elim c.match-matches.branch [
      | in-46 w ↦ cc (w.matches-is, c.if-matches.false)
      | in_default w ↦ c.if-matches.false ∙ real_no _ _ c.if-s-at-2.false w.in_default.in_default-own.rest.1
    ]
