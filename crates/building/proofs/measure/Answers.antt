use mathlib.Core.Path.{refl, sym, ◌∙◌}
use Rattle.building.proofs.Spans.{walk}
use Rattle.building.proofs.Filling.{measuring_start, measured_no, measuring_more, measured_all}
use Rattle.building.proofs.measure.Goals as goal
use Rattle.building.proofs.measure.Goals.{then-is_call, else-is_call}

pub loop-at-init : goal.loop-at-init
loop-at-init c = let g = c.requires.given in (g.arg, measuring_start _ _ _ _ _ _ g.upto c.requires.whole g.ready)

pub span_of-span-requires : goal.span_of-span-requires
span_of-span-requires c =
    let i = c.loop-at.invariant.1 in
    let w = walk _ _ _ _ _ c.requires.given.fits c.loop-at-test.true i.whole i.ready _ c.length_of-len.ensures.0 in
    record { arg = c.loop-at.invariant.0; known = w.known }

pub returns-then-limit-size : goal.returns-then-limit-size
returns-then-limit-size c =
    let i = c.loop-at.invariant.1 in
    let w = walk _ _ _ _ _ c.requires.given.fits c.loop-at-test.true i.whole i.ready _ c.length_of-len.ensures.0 in
    measured_no _ _ _ _ _ _ _ _ _ _ i _ w (rw (← c.span_of-span.ensures) c.if-limit-size.true)

pub loop-at-preserved : goal.loop-at-preserved
loop-at-preserved c =
    let i = c.loop-at.invariant.1 in
    let w = walk _ _ _ _ _ c.requires.given.fits c.loop-at-test.true i.whole i.ready _ c.length_of-len.ensures.0 in (
      c.loop-at.invariant.0,
      rw c.span_of-span.ensures
          (measuring_more _ _ _ _ _ _ _ _ _ _ i _ w _ _
          (elim c.if-is_call.branch [
            | then-is_call w ↦ w.calls-is ∙ rw (sym c.is_call.ensures ∙ w.if-is_call.true) refl
            | else-is_call w ↦ w.calls-is ∙ rw (sym c.is_call.ensures ∙ w.if-is_call.false) refl
          ])
          c.longer-best.ensures
          (rw (← c.span_of-span.ensures) c.if-limit-size.false)),
    )

pub returns : goal.returns
returns c = measured_all _ _ _ _ _ _ _ _ _ _ c.loop-at.invariant.1 c.loop-at-test.false c.requires.given.fits
