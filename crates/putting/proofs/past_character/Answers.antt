use Rattle.putting.specs.Putting.{past_character}
use borrow.Author.Tests.{eq-eqb, ne_eqb}
use Rattle.putting.proofs.past_character.Goals as goal

pub returns-then-b-quote : goal.returns-then-b-quote
unfolding past_character
returns-then-b-quote c = rw (eq-eqb _ _ c.if-b-quote.true)

pub returns-else-b-quote : goal.returns-else-b-quote
unfolding past_character
returns-else-b-quote c = rw (ne_eqb _ _ c.if-b-quote.false)
