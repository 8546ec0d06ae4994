use borrow.Author.Rules.{rules}
use mathlib.Core.Path.{sym, ◌∙◌}
use Rattle.elements.proofs.Values.{shared, different, lost, read_ok, whole_read}
use Rattle.elements.proofs.Places.{proper_inside}
use Rattle.elements.proofs.shared_end.Goals as goal

pub pass-passed-requires : goal.pass-passed-requires
pass-passed-requires c = proper_inside c.requires.0

pub returns-in_err-x : goal.returns-in_err-x
returns-in_err-x c = absurd (whole_read c.requires.0 c.read.ensures (sym c.ok.ensures.value ∙ c.in_err-x.was))

pub returns-in_err-y : goal.returns-in_err-y
returns-in_err-y c =
    rw c.from_residual-in_err-y.ensures (lost _ _ _ c.requires.0 c.read-2.ensures (sym c.ok-2.ensures.value ∙ c.in_err-y.was))

pub returns-then-eq : goal.returns-then-eq
returns-then-eq c =
    shared _ _ _ (read_ok c.read.ensures (sym c.ok.ensures.value ∙ c.in_ok-x.was))
    (read_ok c.read-2.ensures (sym c.ok-2.ensures.value ∙ c.in_ok-y.was)) (search rules)

pub returns-else-eq : goal.returns-else-eq
returns-else-eq c =
    different _ _ _ (read_ok c.read.ensures (sym c.ok.ensures.value ∙ c.in_ok-x.was))
    (read_ok c.read-2.ensures (sym c.ok-2.ensures.value ∙ c.in_ok-y.was)) (search rules)
