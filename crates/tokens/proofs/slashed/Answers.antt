use Rattle.tokens.proofs.Lexing.{tells_wrong, slashed_out, slashed_other, slashed_told}
use Rattle.tokens.proofs.slashed.Goals as goal
use Rattle.tokens.proofs.slashed.Goals.{then-s-at-via-then-s-at, then-s-at-via-else-s-at+then-s-at-ne42}

pub returns-then-s-at : goal.returns-then-s-at
returns-then-s-at c =
    elim c.then-s-at.branch [
      | then-s-at-via-then-s-at w ↦ tells_wrong c.spanning.ensures (slashed_out c.args.s.now c.args.at w.if-s-at.true)
      | then-s-at-via-else-s-at+then-s-at-ne42 w ↦
          tells_wrong c.spanning.ensures (slashed_other c.args.s.now c.args.at w.if-s-at.false w.if-s-at-ne42.true)
    ]

pub returns : goal.returns
returns c = slashed_told _ _ c.if-s-at.false c.if-s-at-ne42.false c.comment_end.ensures c.ending.ensures
