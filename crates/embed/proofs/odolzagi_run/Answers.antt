use native.Mathlib.Omega.{arith}
use Rattle.embed.proofs.Faces.{no_answer, answer_told}
use Rattle.embed.proofs.odolzagi_run.Goals as goal

pub returns-then-answer-lt4 : goal.returns-then-answer-lt4
returns-then-answer-lt4 c = no_answer _ _ _ _ _ _ (omega (arith, c.if-answer-lt4.true))

pub returns : goal.returns
returns c =
    answer_told _ _ _ _ _ _ (omega (arith, c.if-answer-lt4.false)) c.run-ran.ensures c.number.ensures c.write.ensures
