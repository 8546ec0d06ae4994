use mathlib.Core.Path.{refl, ◌∙◌}
use native.Mathlib.Omega.{arith}
use Rattle.running.proofs.Loop.{same-run, between_start, end_done, end_paused, stuck_from, next_from, halted_as, led_under}
use Rattle.running.proofs.steps_from.Goals as goal

pub loop-at-init : goal.loop-at-init
loop-at-init c = record {
  same = refl;
  room = refl;
  notes = refl;
  cache = c.requires.cache;
  between = between_start _ _ _ _ _ _ _ _ _ c.requires.ready refl c.begin-s.ensures refl;
}

pub returns-in_default : goal.returns-in_default
returns-in_default c =
    halted_as (same-run _ _ _ _ _ c.requires.ready.fits c.begin-s.ensures)
    (rw c.halted.ensures (end_done _ _ _ _ _ _ _ _ _ _ _ _ c.loop-at.invariant.between _ _ _ _ _ _ _ _ c.advance-mark.ensures c.in_default.is))

pub returns-then-steps-budget : goal.returns-then-steps-budget
returns-then-steps-budget c =
    halted_as (same-run _ _ _ _ _ c.requires.ready.fits c.begin-s.ensures)
    (rw c.halted-then-steps-budget.ensures (end_paused _ _ _ _ _ _ _ _ _ _ _ _ c.loop-at.invariant.between _ _ _ _ _ _ _ _ c.advance-mark.ensures c.in-Some.is c.if-steps-budget.true))

pub returns-in-Err : goal.returns-in-Err
returns-in-Err c =
    let lead = c.gather-lead.ensures in
    halted_as (same-run _ _ _ _ _ c.requires.ready.fits c.begin-s.ensures)
    (rw c.halted-in-Err.ensures (stuck_from _ _ _ _ _ _ _ _ _ _ _ _ c.loop-at.invariant.between _ _ _ _ _ _ _ _ c.advance-mark.ensures
    c.in-Some.is c.if-steps-budget.false _ _ _ lead.same.0 lead.same.1
    (c.gather-lead.auto.field ∙ c.advance-mark.auto.field ∙ c.loop-at.invariant.same) _ _ _
    (c.step_at.ensures.by_index _ _ (led_under lead.led.0 lead.led.1 lead.same.2)) c.in-Err.is c.from.ensures))

pub loop-at-preserved : goal.loop-at-preserved
loop-at-preserved c =
    let lead = c.gather-lead.ensures in
    let inv = c.loop-at.invariant in
    let l0 = inv.same in
    let l1 = c.advance-mark.auto.field in
    let l2 = c.gather-lead.auto.field in
    let l3 = c.step_at.auto.field in
    let s0 = inv.room in
    let s1 = c.step_at.auto.scratch in
    let c0 = inv.notes in
    let c1 = c.advance-mark.auto.calls in
    let c2 = c.step_at.auto.calls in
    record {
      same = omega arith;
      room = omega arith;
      notes = omega arith;
      cache = c.step_at.ensures.cache_2;
      between = next_from _ _ _ _ _ _ _ _ _ _ _ _ inv.between _ _ _ _ _ _ _ _ c.advance-mark.ensures c.in-Some.is
          c.if-steps-budget.false _ _ _ lead.same.0 lead.same.1 (omega arith) _ _ _
          (c.step_at.ensures.by_index _ _ (led_under lead.led.0 lead.led.1 lead.same.2)) c.requires.ready.functions c.in-Ok.is;
    }
