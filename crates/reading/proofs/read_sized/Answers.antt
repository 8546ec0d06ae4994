use Rattle.reading.proofs.Giving.{refused_is, given-said, bad_said}
use Rattle.reading.proofs.read_sized.Goals as goal

pub returns-in-Ok : goal.returns-in-Ok
returns-in-Ok c =
    let e = c.new-names.ensures.text in
    let f = c.in-Ok.ensures.text in
    given-said c.args.program.now c.args.list.now (rw e at c.in-Ok.ensures.saying) (rw (f, e) at c.give.ensures)

pub returns-in-Err : goal.returns-in-Err
returns-in-Err c =
    let e = c.new-names.ensures.text in
    rw (refused_is c.refused.ensures) (bad_said (rw e at c.in-Err.ensures.saying))
