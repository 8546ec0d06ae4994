use Rattle.tokens.proofs.Lexing.{tells, tells_wrong, starred_no, starred_yes}
use Rattle.tokens.proofs.starred.Goals as goal

pub returns-then-starts_line : goal.returns-then-starts_line
returns-then-starts_line c =
    tells _ _ c.spanning.ensures (starred_yes _ _ _ c.starts_line.ensures c.if-starts_line.true _ c.run_end-end.ensures)

pub returns : goal.returns
returns c = tells_wrong c.spanning-2.ensures (starred_no _ _ _ c.starts_line.ensures c.if-starts_line.false)
