use native.Mathlib.Omega.{arith}
use Rattle.embed.proofs.Faces.{nothing_read, read_told}
use Rattle.embed.proofs.odolzagi_read.Goals as goal

pub returns-then-numbers-lt4 : goal.returns-then-numbers-lt4
returns-then-numbers-lt4 c = nothing_read _ _ _ _ (omega (arith, c.if-numbers-lt4.true))

pub returns : goal.returns
returns c =
    read_told _ _ _ _ (omega (arith, c.if-numbers-lt4.false)) c.read-read.ensures c.number.ensures c.write.ensures
