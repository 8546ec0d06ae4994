use mathlib.Core.Path.{◌∙◌}
use mathlib.Core.Logic.{⊎_elim, inl, inr}
use Rattle.checking.proofs.Reading.{entered}
use Rattle.checking.proofs.enter.Goals as goal

pub returns-then-state-eq-START : goal.returns-then-state-eq-START
returns-then-state-eq-START c =
    λ st found R. entered R c.if-bytes-at.false (λ z. c.if-passed-eq-FUNCTION_END.false (c.pass-passed.ensures.kind_is ∙ z))
    (⊎_elim inl (λ w. inr w.1) c.then-state-eq-START.either)
