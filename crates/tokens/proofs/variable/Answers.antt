use mathlib.Core.Path.{sym, ◌∙◌}
use Rattle.tokens.proofs.Lexing.{tells, tells_wrong, tells_as, indexed_out, indexed_dot, indexed_other, indexed_touching, indexed_yes, by_index}
use Rattle.tokens.proofs.variable.Goals as goal
use Rattle.tokens.proofs.variable.Goals.{else-is_index-via-then-is_index+else-is_apart, else-is_index-via-else-is_index}

pub returns-then-s-at : goal.returns-then-s-at
returns-then-s-at c = tells_wrong c.spanning-malformed.ensures (indexed_out c.args.s.now c.args.at c.if-s-at.true)

pub returns-then-s-at-eq46 : goal.returns-then-s-at-eq46
returns-then-s-at-eq46 c =
    tells_as (indexed_dot c.args.s.now c.args.at c.if-s-at.false c.if-s-at-eq46.true) c.dotted.ensures

pub returns-then-is_apart : goal.returns-then-is_apart
returns-then-is_apart c =
    tells _ _ c.spanning.ensures
    (indexed_yes c.args.s.now c.args.at c.if-s-at.false c.if-s-at-eq46.false (by_index _ _ c.class_of.ensures ∙ sym c.is_index.ensures ∙ c.if-is_index.true) _
    c.is_apart.ensures c.if-is_apart.true)

pub returns : goal.returns
returns c =
    elim c.else-is_index.branch [
      | else-is_index-via-then-is_index+else-is_apart w ↦
          tells_wrong c.spanning-malformed.ensures
          (indexed_touching c.args.s.now c.args.at c.if-s-at.false c.if-s-at-eq46.false
          (by_index _ _ c.class_of.ensures ∙ sym c.is_index.ensures ∙ w.if-is_index.true) _ w.is_apart.ensures w.if-is_apart.false)
      | else-is_index-via-else-is_index w ↦
          tells_wrong c.spanning-malformed.ensures
          (indexed_other c.args.s.now c.args.at c.if-s-at.false c.if-s-at-eq46.false
          (by_index _ _ c.class_of.ensures ∙ sym c.is_index.ensures ∙ w.if-is_index.false))
    ]
