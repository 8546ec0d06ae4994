use Rattle.embed.proofs.Faces.{no_record, record_ended, record_called}
use Rattle.embed.proofs.odolzagi_desk.Goals as goal

pub returns-then-noted-lt3 : goal.returns-then-noted-lt3
returns-then-noted-lt3 c = no_record _ _ _ _ c.if-noted-lt3.true

pub returns-then-noted-ne1 : goal.returns-then-noted-ne1
returns-then-noted-ne1 c = record_ended _ _ _ _ c.if-noted-lt3.false c.if-noted-ne1.true

pub returns : goal.returns
returns c =
    record_called _ _ _ _ c.if-noted-lt3.false c.if-noted-ne1.false c.call-new.ensures c.number.ensures c.write.ensures
