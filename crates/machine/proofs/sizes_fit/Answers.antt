use Rattle.machine.proofs.Sizes.{program_long, field_long, scratch_long, used_long, last_size}
use Rattle.machine.proofs.sizes_fit.Goals as goal

pub returns-then-program-gt65536 : goal.returns-then-program-gt65536
returns-then-program-gt65536 c = program_long _ _ _ _ c.if-program-gt65536.true

pub returns-then-field-gt65536 : goal.returns-then-field-gt65536
returns-then-field-gt65536 c = field_long _ _ _ _ c.if-program-gt65536.false c.if-field-gt65536.true

pub returns-then-scratch-gt65536 : goal.returns-then-scratch-gt65536
returns-then-scratch-gt65536 c = scratch_long _ _ _ _ c.if-program-gt65536.false c.if-field-gt65536.false c.if-scratch-gt65536.true

pub returns-then-field-used : goal.returns-then-field-used
returns-then-field-used c =
    used_long _ _ _ _ c.if-program-gt65536.false c.if-field-gt65536.false c.if-scratch-gt65536.false c.if-field-used.true

pub returns : goal.returns
returns c =
    last_size _ _ _ _ c.if-program-gt65536.false c.if-field-gt65536.false c.if-scratch-gt65536.false c.if-field-used.false
