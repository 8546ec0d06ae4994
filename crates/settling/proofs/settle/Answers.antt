use Rattle.settling.specs.Values.{noted, noting}
use mathlib.Core.Path.{refl, sym, ◌∙◌}
use Rattle.settling.proofs.settle.Goals as goal

pub returns-in-Some : goal.returns-in-Some
unfolding noting
returns-in-Some c =
    noted c.in-Some.is (rw c.in-Some.is at c.requires.high) (sym c.has.ensures ∙ c.if-not-has.true) refl c.with.ensures
