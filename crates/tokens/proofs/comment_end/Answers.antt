use mathlib.Core.Path.{◌∙◌}
use Rattle.tokens.proofs.Comments.{past-free, past_other, past_end, past_out}
use Rattle.tokens.proofs.comment_end.Goals as goal
use Rattle.tokens.proofs.comment_end.Goals.{else-held-via-then-held+else-b-eq47, else-held-via-else-held}

pub returns-then-b-eq47 : goal.returns-then-b-eq47
returns-then-b-eq47 c = past_end _ _ _ c.loop-i-test.true c.if-held.true c.if-b-eq47.true ∙ c.loop-i.invariant

pub loop-i-preserved : goal.loop-i-preserved
loop-i-preserved c =
    elim c.else-held.branch [
      | else-held-via-then-held+else-b-eq47 w ↦
          past_other _ _ _ c.loop-i-test.true w.if-b-eq47.false ∙ c.loop-i.invariant
      | else-held-via-else-held w ↦
          past-free _ _ _ c.loop-i-test.true w.if-held.false ∙ c.loop-i.invariant
    ]

pub returns : goal.returns
returns c = past_out _ _ _ c.loop-i-test.false ∙ c.loop-i.invariant
