use Rattle.tokens.proofs.Lexing.{tells, tells_wrong, number-real, number_over, number_some}
use Rattle.tokens.proofs.number.Goals as goal
use Rattle.tokens.proofs.number.Goals.{then-is_real-via-then-is_real, then-is_real-via-else-is_real+then-value-gt4294967295}

pub returns-then-is_real : goal.returns-then-is_real
returns-then-is_real c =
    elim c.then-is_real.branch [
      | then-is_real-via-then-is_real w ↦
          tells_wrong c.spanning.ensures (number-real _ _ _ _ c.sum_up-end.ensures _ c.is_real.ensures w.if-is_real.true)
      | then-is_real-via-else-is_real+then-value-gt4294967295 w ↦
          tells_wrong c.spanning.ensures (number_over _ _ _ _ c.sum_up-end.ensures _ c.is_real.ensures w.if-is_real.false w.if-value-gt4294967295.true)
    ]

pub returns : goal.returns
returns c =
    tells _ _ c.spanning-2.ensures
    (number_some _ _ _ _ c.sum_up-end.ensures _ c.is_real.ensures c.if-is_real.false c.if-value-gt4294967295.false c.requires.0 c.requires.1)
