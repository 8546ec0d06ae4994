use native.Mathlib.Omega.{arith}
use Rattle.meaning.proofs.Cutting.{body_le}
use Rattle.kinds.proofs.Bodies.{length-known, body_unknown}
use Rattle.kinds.proofs.length_of.Goals as goal

pub returns-then-k-le-PROGRAM_END : goal.returns-then-k-le-PROGRAM_END
returns-then-k-le-PROGRAM_END c = let e = length-known c.args.k (omega arith) in (e, omega (arith, e, body_le c.args.k))

pub returns-else-k-le-PROGRAM_END : goal.returns-else-k-le-PROGRAM_END
returns-else-k-le-PROGRAM_END c = let e = body_unknown c.args.k (omega arith) in (omega (arith, e), omega arith)
