use Rattle.classes.specs.declared.Class.TheVariants.{Capital}
use Rattle.classes.proofs.Order.{ne_true, ne_false}
use Rattle.tokens.proofs.Lexing.{ends_out, ends_other, ends_name, ends_long}
use Rattle.tokens.proofs.identifier_end.Goals as goal
use Rattle.tokens.proofs.identifier_end.Goals.{then-s-at-via-then-s-at, then-s-at-via-else-s-at+then-ne}

pub returns-then-s-at : goal.returns-then-s-at
returns-then-s-at c =
    elim c.then-s-at.branch [
      | then-s-at-via-then-s-at w ↦ ends_out _ _ w.if-s-at.true
      | then-s-at-via-else-s-at+then-ne w ↦ ends_other _ _ w.if-s-at.false _ w.class_of.ensures (ne_true _ Capital w.ne.ensures w.if-ne.true)
    ]

pub returns-then-end-at : goal.returns-then-end-at
returns-then-end-at c =
    ends_name _ _ c.if-s-at.false _ c.class_of.ensures (ne_false _ Capital c.ne.ensures c.if-ne.false) _ c.run_end-end.ensures c.if-end-at.true

pub returns-else-end-at : goal.returns-else-end-at
returns-else-end-at c =
    ends_long _ _ c.if-s-at.false _ c.class_of.ensures (ne_false _ Capital c.ne.ensures c.if-ne.false) _ c.run_end-end.ensures c.if-end-at.false
