use Rattle.std.proofs.lemmas.Result.{err_from_is_err_and}
use Rattle.stepping.proofs.Step.{stays_3, refused}
use Rattle.stepping.proofs.step_at.Goals as goal

pub returns-in_err-body : goal.returns-in_err-body
returns-in_err-body c =
    let e = c.look_up.ensures in
    let p = err_from_is_err_and c.from_residual.result c.from_residual.ensures.1 in
    let k = c.in_err-body.ensures in
    record { by_index = λ read depth u. rw (p.1, p.2, refused k.ok_part k.value) (stays_3 c.requires.good u.term (rw k.ok_part at e.looked)); cache_2 = e.cache }
