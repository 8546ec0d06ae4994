use native.Mathlib.Omega.{arith}
use Rattle.meaning.specs.Elements.{body}
use Rattle.text.specs.Reading.{signed}
use Rattle.putting.proofs.Making.{onward_as, sign_one, sign_brace, sign_none}
use Rattle.putting.proofs.put_sign.Goals as goal

pub put-requires : goal.put-requires
unfolding body
put-requires c = (c.requires, omega arith)

pub put-requires-in-41 : goal.put-requires-in-41
unfolding body
put-requires-in-41 c = (c.requires, omega arith)

pub put-requires-in-62 : goal.put-requires-in-62
unfolding body
put-requires-in-62 c = (c.requires, omega arith)

pub put-requires-in-61 : goal.put-requires-in-61
unfolding body
put-requires-in-61 c = (c.requires, omega arith)

pub put-requires-in-59 : goal.put-requires-in-59
unfolding body
put-requires-in-59 c = (c.requires, omega arith)

pub returns-in-40 : goal.returns-in-40
unfolding signed
returns-in-40 c = onward_as (sign_one c.args.sign 4 (λ p. rw c.in-40.is)) c.put.ensures

pub returns-in-41 : goal.returns-in-41
unfolding signed
returns-in-41 c = onward_as (sign_one c.args.sign 5 (λ p. rw c.in-41.is)) c.put-in-41.ensures

pub returns-in-62 : goal.returns-in-62
unfolding signed
returns-in-62 c = onward_as (sign_one c.args.sign 7 (λ p. rw c.in-62.is)) c.put-in-62.ensures

pub returns-in-61 : goal.returns-in-61
unfolding signed
returns-in-61 c = onward_as (sign_one c.args.sign 11 (λ p. rw c.in-61.is)) c.put-in-61.ensures

pub returns-in-59 : goal.returns-in-59
unfolding signed
returns-in-59 c = onward_as (sign_one c.args.sign 12 (λ p. rw c.in-59.is)) c.put-in-59.ensures

pub returns-in-125 : goal.returns-in-125
returns-in-125 c = onward_as (sign_brace _ c.in-125.is) c.put_brace.ensures

pub returns-in_default : goal.returns-in_default
returns-in_default c = let ((((((u, a), b), d), e), f), g) = c.in_default.in_default-own.rest in sign_none _ a b d e f g
