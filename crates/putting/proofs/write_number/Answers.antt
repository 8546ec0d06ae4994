use Rattle.putting.proofs.Writing.{digits-begin, digit_on, digit_out}
use mathlib.Core.Path.{refl, ◌∙◌}
use Prim.Native.Nat.{◌+◌}
use native.Mathlib.Omega.{arith}
use lib.ListN.{length-set}
use Rattle.putting.proofs.write_number.Goals as goal

pub loop-i-init : goal.loop-i-init
loop-i-init c = (digits-begin c.args.buf.now c.args.at c.args.n c.args.number, refl)

pub bounds-buf-at : goal.bounds-buf-at
bounds-buf-at c = omega (arith, c.loop-i.invariant.1, c.requires)

pub loop-i-preserved : goal.loop-i-preserved
loop-i-preserved c = (
  digit_on c.loop-i.buf c.args.at c.loop-i.i c.args.n c.loop-i.rest c.loop-i-test.true ∙ c.loop-i.invariant.0,
  length-set c.loop-i.buf (c.args.at + c.loop-i.i) _ ∙ c.loop-i.invariant.1,
)

pub shape_of-buf : goal.shape_of-buf
shape_of-buf c = c.loop-i.invariant.1

pub returns : goal.returns
returns c = digit_out _ c.args.at _ _ _ c.loop-i-test.false ∙ c.loop-i.invariant.0
