use Rattle.checking_fields.proofs.Scratch.{too_short, checked}
use Rattle.checking_fields.proofs.check_field.Goals as goal

pub returns-then-scratch-field : goal.returns-then-scratch-field
returns-then-scratch-field c = too_short c.args.field.now c.args.scratch.now c.if-scratch-field.true

pub returns : goal.returns
returns c =
    checked c.args.field.now c.args.scratch.now c.pass_field-found.new.stack c.if-scratch-field.false c.pass_field-found.ensures c.pass_field-found.auto.stack
    c.clear.ensures
