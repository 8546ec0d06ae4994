use lib.ListN.{length-set}
use mathlib.Core.Path.{◌∙◌}
use native.Mathlib.Omega.{arith}
use Rattle.putting.proofs.Writing.{written_over, written_fits}
use Rattle.putting.proofs.write.Goals as goal

pub returns-then-buf-len : goal.returns-then-buf-len
returns-then-buf-len c = written_over _ _ _ _ c.length_of-size.ensures.0 c.if-buf-len.true

pub write_number-requires : goal.write_number-requires
write_number-requires c =
    omega (arith, c.length_of-size.ensures.0, c.if-buf-len.false, length-set c.args.buf.now c.args.len c.args.kind)

pub shape_of-buf : goal.shape_of-buf
shape_of-buf c = c.write_number.auto.buf ∙ length-set c.args.buf.now c.args.len c.args.kind

pub returns : goal.returns
returns c =
    written_fits c.args.buf.now c.args.len c.args.kind c.args.number c.length_of-size.ensures.0 c.if-buf-len.false
    c.write_number.ensures
