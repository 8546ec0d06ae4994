use mathlib.Core.Logic.{inl, inr}
use Rattle.meaning.specs.Elements.{body}
use Rattle.tokens.specs.Lexemes.{token_of}
use lib.ListN.{get_or}
use Rattle.text.specs.Reading.{within}
use Rattle.putting.proofs.Making.{onward_as, makes, makes_none, makes_sign, closes, entered_as, body_type}
use Rattle.putting.proofs.put_within.Goals as goal

pub put-requires : goal.put-requires
unfolding body
put-requires c = (c.requires.0, (entered_as c.in-Name.is c.requires.2).fits)

pub put-requires-in-Call : goal.put-requires-in-Call
unfolding body
put-requires-in-Call c = (c.requires.0, (entered_as c.in-Call.is c.requires.2).fits)

pub put-requires-in-Macrodigit : goal.put-requires-in-Macrodigit
unfolding body
put-requires-in-Macrodigit c =
    let (ek, en, eb) = c.macrodigit.ensures in
    (c.requires.0, rw (ek, en) eb)

pub put_characters-requires : goal.put_characters-requires
put_characters-requires c =
    let e = entered_as c.in-String.is c.requires.2 in
    (c.requires.0, closes _ _ _ c.requires.1 e.ahead e.proper)

pub put-requires-in-Variable : goal.put-requires-in-Variable
put-requires-in-Variable c =
    let (ek, en) = c.variable.ensures in (
      c.requires.0,
      rw (ek, en, body_type (get_or c.args.text.now c.args.at 0)) (entered_as c.in-Variable.is c.requires.2).fits,
    )

pub returns-in-Gap : goal.returns-in-Gap
unfolding token_of within
returns-in-Gap c =
    elim c.in-Gap.is [
      | inl e ↦ makes_none _ _ (λ p. rw e)
      | inr e ↦ makes_none _ _ (λ p. rw e)
    ]

pub returns-in-Name : goal.returns-in-Name
unfolding token_of within
returns-in-Name c = onward_as (makes _ _ _ (λ p. rw c.in-Name.is)) c.put.ensures

pub returns-in-Call : goal.returns-in-Call
unfolding token_of within
returns-in-Call c = onward_as (makes _ _ _ (λ p. rw c.in-Call.is)) c.put-in-Call.ensures

pub returns-in-Macrodigit : goal.returns-in-Macrodigit
unfolding token_of within
returns-in-Macrodigit c =
    onward_as (makes _ _ _ (λ p. rw (c.in-Macrodigit.is, c.macrodigit.ensures.0, c.macrodigit.ensures.1))) c.put-in-Macrodigit.ensures

pub returns-in-String : goal.returns-in-String
unfolding token_of within
returns-in-String c = onward_as (makes _ _ _ (λ p. rw c.in-String.is)) c.put_characters.ensures

pub returns-in-Variable : goal.returns-in-Variable
unfolding token_of within
returns-in-Variable c =
    onward_as (makes _ _ _ (λ p. rw (c.in-Variable.is, c.variable.ensures.0, c.variable.ensures.1))) c.put-in-Variable.ensures

pub returns-in-Sign : goal.returns-in-Sign
returns-in-Sign c = onward_as (makes_sign _ _ _ _ c.in-Sign.is) c.put_sign.ensures
