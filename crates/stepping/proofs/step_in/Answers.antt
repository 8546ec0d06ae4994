use native.Mathlib.Omega.{arith}
use Rattle.std.proofs.lemmas.Result.{err_from_is_err_and}
use Rattle.stepping.proofs.Term.{places, arg_balanced}
use Rattle.stepping.proofs.Step.{place, sd, refused, stays_2, stays_4, in_given, start_in, in_count, in_done}
use Rattle.stepping.proofs.step_in.Goals as goal

pub slice_bounds-choose-end : goal.slice_bounds-choose-end
slice_bounds-choose-end c = omega (arith, (places c.requires.good c.requires.led.under.term).2)

pub choose-requires : goal.choose-requires
choose-requires c =
    let k = place _ _ _ c.requires.looked in
    record {
      at_in_bounds = k.upto;
      whole = k.whole;
      body = k.body;
      balanced = arg_balanced c.requires.good c.requires.led.under.term;
    }

pub returns-in_err-side : goal.returns-in_err-side
returns-in_err-side c =
    let p = err_from_is_err_and c.from_residual.result c.from_residual.ensures.1 in
    let k = c.in_err-side.ensures in
    λ read depth u. rw (p.1, p.2, refused k.ok_part k.value) (stays_2 c.requires.good u c.requires.looked c.choose.ensures k.ok_part)

pub measure-requires : goal.measure-requires
measure-requires c =
    let g = c.requires.good in
    let l = c.requires.looked in
    let u = c.requires.led.under in
    record {
      given = in_given g u l c.choose.ensures c.in_ok-side.ensures.ok_part;
      whole = (sd g u l c.choose.ensures c.in_ok-side.ensures.ok_part).whole;
    }

pub returns-in_err-extent : goal.returns-in_err-extent
returns-in_err-extent c =
    let p = err_from_is_err_and c.from_residual-in_err-extent.result c.from_residual-in_err-extent.ensures.1 in
    let k = c.in_err-extent.ensures in
    λ read depth u. rw (p.1, p.2, refused k.ok_part k.value)
    (stays_4 c.requires.good u c.requires.looked c.choose.ensures c.in_ok-side.ensures.ok_part c.measure.ensures k.ok_part)

pub place-requires : goal.place-requires
place-requires c =
    let g = c.requires.good in
    let l = c.requires.looked in
    let u = c.requires.led.under in
    let h = c.requires.roomy in
    let (a, i, e) = places g u.term in
    let d = sd g u l c.choose.ensures c.in_ok-side.ensures.ok_part in
    let (y, z, _, v) = c.measure.ensures.yes _ c.in_ok-extent.ensures.ok_part in
    record { in_program = (d.up, d.upto, d.whole, v); hi_le_at = (i, e); ready = d.ready; room = (omega arith, h.1) }

pub overflow_sub-start : goal.overflow_sub-start
overflow_sub-start c =
    (start_in c.requires.good c.requires.led.under c.requires.looked c.choose.ensures c.in_ok-side.ensures.ok_part c.measure.ensures c.in_ok-extent.ensures.ok_part).0

pub overflow_sub-first : goal.overflow_sub-first
overflow_sub-first c =
    let k = in_count c.requires.good c.requires.led.under c.requires.looked c.choose.ensures c.in_ok-side.ensures.ok_part c.measure.ensures c.in_ok-extent.ensures.ok_part c.requires.functions c.requires.roomy.0.1 in
    omega (arith, (c.measure.ensures.yes _ c.in_ok-extent.ensures.ok_part).2)

pub note-requires : goal.note-requires
note-requires c =
    let g = c.requires.good in
    let l = c.requires.looked in
    let u = c.requires.led.under in
    let h = c.requires.roomy.0 in
    let (_, e, r) = start_in g u l c.choose.ensures c.in_ok-side.ensures.ok_part c.measure.ensures c.in_ok-extent.ensures.ok_part in
    let k = in_count g u l c.choose.ensures c.in_ok-side.ensures.ok_part c.measure.ensures c.in_ok-extent.ensures.ok_part c.requires.functions h.1 in
    let y = (c.measure.ensures.yes _ c.in_ok-extent.ensures.ok_part).2 in
    let i = u.inside in
    let o = h.0 in
    record {
      given = in_given g u l c.choose.ensures c.in_ok-side.ensures.ok_part;
      whole = (sd g u l c.choose.ensures c.in_ok-side.ensures.ok_part).whole;
      room = (omega arith, omega arith);
    }

pub returns : goal.returns
returns c =
    λ read depth u. in_done c.requires.good u c.requires.looked c.choose.ensures c.in_ok-side.ensures.ok_part c.measure.ensures c.in_ok-extent.ensures.ok_part c.requires.functions
    c.requires.roomy.0.1 c.place.ensures c.note.ensures
