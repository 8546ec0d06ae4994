use Rattle.putting.proofs.Putting.{put_made, ready_of, put_bad, step_made, step_refused}
use Rattle.putting.proofs.Writing.{filled_most}
use Rattle.putting.proofs.put.Goals as goal

pub take-requires : goal.take-requires
take-requires c = ready_of c.requires.0.stands

pub write-requires : goal.write-requires
write-requires c = filled_most c.requires.0.stands.filled

pub returns-in_err-state : goal.returns-in_err-state
returns-in_err-state c =
    let w = step_refused _ _ _ _ _ _ c.take.ensures c.in_err-state.ensures.value in
    rw c.from_residual.ensures (put_bad c.args.reader c.args.e c.args.stack.now c.args.buf.now _ c.requires.1 w.1 _)

pub returns : goal.returns
returns c =
    put_made c.args.reader c.args.e c.args.stack.now c.args.buf.now _ c.requires.1 (step_made _ _ _ _ _ _ c.take.ensures c.in_ok-state.ensures.value)
    c.take.auto.stack c.kind_of-kind.ensures c.number_of.ensures c.phase_after.ensures c.kept.ensures c.write.ensures
    c.write.auto.buf
