use Rattle.reading.proofs.Giving.{no_program, no_list, given, refused_is}
use Rattle.reading.proofs.give.Goals as goal
use Rattle.reading.proofs.give.Goals.{then-program-len-via-then-program-len, then-program-len-via-else-program-len+then-list-size}

pub returns-then-program-len : goal.returns-then-program-len
returns-then-program-len c =
    let p = c.args.names.now.index.places in
    λ es f. rw (refused_is c.refused.ensures)
    (elim c.then-program-len.branch [
      | then-program-len-via-then-program-len w ↦
          no_program p es f c.args.program.now c.args.list.now c.requires.0 c.requires.1 w.if-program-len.true
      | then-program-len-via-else-program-len+then-list-size w ↦
          no_list p es f c.args.program.now c.args.list.now c.requires.0 c.requires.1 w.if-list-size.true
    ])

pub returns : goal.returns
returns c =
    let p = c.args.names.now.index.places in
    λ es f. given p es f c.args.program.now c.args.list.now c.requires.0 c.requires.1 c.if-program-len.false c.if-list-size.false
    c.copy.ensures c.clear.ensures c.write_list.ensures
