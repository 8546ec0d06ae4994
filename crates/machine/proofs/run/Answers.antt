use Rattle.machine.proofs.Answering.{check_bad, bad_program_lem, bad_sizes}
use Rattle.meaning.specs.Goodness.{bad_program}
use mathlib.Core.Path.{sym, ◌∙◌}
use Rattle.machine.proofs.run.Goals as goal

pub returns-then-not-sizes_fit : goal.returns-then-not-sizes_fit
returns-then-not-sizes_fit c = bad_sizes _ _ _ _ _ (sym c.sizes_fit.ensures ∙ c.if-not-sizes_fit.true) c.refusal.ensures

pub returns-in-Err : goal.returns-in-Err
returns-in-Err c =
    let fit = sym c.sizes_fit.ensures ∙ c.if-not-sizes_fit.false in
    let bad = check_bad (bad_program _) c.in-Err.ensures in
    bad_program_lem _ _ _ _ _ fit bad _ (c.fill.ensures.after (λ y h. h)) c.refusal-in-Err.ensures
