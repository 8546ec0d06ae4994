use native.Mathlib.Omega.{arith}
use denote.Enum.Bare.{same_true, same_false}
use mathlib.Core.Path.{sym, ◌∙◌}
use Rattle.meaning.specs.Elements.{body}
use Rattle.putting.specs.contracts.Phase.{the_type}
use Rattle.putting.proofs.Putting.{led, barred}
use Rattle.reading.proofs.Saying.{finish_owed, finish_early, finish_good}
use Rattle.reading.proofs.finish.Goals as goal

pub returns-then-eq : goal.returns-then-eq
returns-then-eq c = finish_owed _ (same_true the_type tt _ _ (sym c.eq.ensures ∙ c.if-eq.true))

pub put-requires : goal.put-requires
unfolding body
put-requires c = (c.requires, omega arith)

pub returns-in-Some : goal.returns-in-Some
returns-in-Some c = finish_good _ (same_false the_type _ _ (sym c.eq.ensures ∙ c.if-eq.false)) (led c.in-Some.ensures)

pub returns-in-None : goal.returns-in-None
returns-in-None c = finish_early _ (same_false the_type _ _ (sym c.eq.ensures ∙ c.if-eq.false)) (barred c.in-None.ensures)
