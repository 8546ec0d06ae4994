use Rattle.machine.proofs.Answering.{field_good, field_bad, never_short, used_fits, field_check_lem, scratch_zero, checked, same-run, bad_field_lem}
use Rattle.meaning.specs.Goodness.{bad_field}
use mathlib.Core.Path.{◌∙◌}
use native.Mathlib.Omega.{arith}
use Rattle.machine.proofs.run_field.Goals as goal

pub slice_bounds-check_field-end : goal.slice_bounds-check_field-end
slice_bounds-check_field-end c =
    let u = used_fits _ _ _ _ c.requires in
    omega arith

pub run_checked-requires : goal.run_checked-requires
run_checked-requires c =
    checked _ _ _ _ c.requires _ c.check_field.auto.scratch
    (field_good (bad_field _) (c.in-Ok.ensures.0 ∙ field_check_lem _ _ _ _ c.requires))

pub returns-in-Ok : goal.returns-in-Ok
returns-in-Ok c =
    let good = field_good (bad_field _) (c.in-Ok.ensures.0 ∙ field_check_lem _ _ _ _ c.requires) in
    same-run _ _ _ _ c.requires _ c.check_field.auto.scratch good _ c.run_checked.ensures

pub returns-in-Err-Bad : goal.returns-in-Err-Bad
returns-in-Err-Bad c =
    let bad = field_bad (bad_field _) ((rw c.in-Err-Bad.field-0-is at c.in-Err-Bad.ensures.0) ∙ field_check_lem _ _ _ _ c.requires) in
    bad_field_lem _ _ _ _ c.requires _ bad _ (c.check_field.ensures.1 ∙ scratch_zero _ _ _ _ c.requires) c.refusal.ensures

pub returns-in-Err-Short : goal.returns-in-Err-Short
returns-in-Err-Short c =
    absurd (never_short (bad_field _) ((rw c.in-Err-Short.field-0-is at c.in-Err-Short.ensures.0) ∙ field_check_lem _ _ _ _ c.requires))
