use native.Mathlib.Omega.{arith}
use Rattle.choosing.proofs.Index.read_to.Goals as goal
use Rattle.choosing.proofs.Index.read_to.Goals.{then-loop-c-test+else-self-slot-eq0, else-loop-c-test}

pub read_one-c-requires : goal.read_one-c-requires
read_one-c-requires c = (c.loop-c.invariant, c.loop-c-test.true, c.requires.2)

pub loop-c-smaller : goal.loop-c-smaller
loop-c-smaller c =
    let k = c.read_one-c.ensures.1 in
    let t = c.loop-c-test.true in
    omega arith

pub loop-c-preserved : goal.loop-c-preserved
loop-c-preserved c = c.read_one-c.ensures.0

pub returns : goal.returns
returns c = (
  c.loop-c.invariant,
  λ z. (let u = c.loop-c.invariant.upto in
      elim c.loop-c-test.branch [ then-loop-c-test+else-self-slot-eq0 w ↦ absurd (w.if-self-slot-eq0.false z) | else-loop-c-test w ↦ omega arith ]),
)
