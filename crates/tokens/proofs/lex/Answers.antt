use mathlib.Core.Path.{refl}
use Rattle.tokens.specs.Lexemes.{token_of, lexeme_of}
use Rattle.tokens.specs.declared.Token.TheVariants as T
use Rattle.classes.proofs.Runs.{of_eq}
use Rattle.tokens.proofs.Lexing.{tells_wrong, tells_as, one_byte, lex_gap, lex_slash, lex_name, lex_variable, lex-number, lex_string, lex_sign, lex-call, lex_star, lex_other}
use Rattle.tokens.proofs.lex.Goals as goal

pub number-requires : goal.number-requires
number-requires c = (c.requires, of_eq 6 _ 6 c.in-Digit.ensures refl)

pub returns-in-Blank : goal.returns-in-Blank
unfolding lexeme_of token_of
returns-in-Blank c = one_byte T.Gap tt refl (lex_gap _ _ _ c.class_of.ensures c.in-Blank.is) c.spanning.ensures

pub returns-in-Slash : goal.returns-in-Slash
returns-in-Slash c = tells_as (lex_slash _ _ 2 c.in-Slash.ensures refl) c.slashed.ensures

pub returns-in-Capital : goal.returns-in-Capital
returns-in-Capital c = tells_as (lex_name _ _ 3 c.in-Capital.ensures refl c.requires) c.name.ensures

pub returns-in-Typed : goal.returns-in-Typed
returns-in-Typed c = tells_as (lex_variable _ _ 5 c.in-Typed.ensures refl) c.variable.ensures

pub returns-in-Digit : goal.returns-in-Digit
returns-in-Digit c = tells_as (lex-number _ _ 6 c.in-Digit.ensures refl c.requires) c.number.ensures

pub returns-in-Quote : goal.returns-in-Quote
returns-in-Quote c = tells_as (lex_string _ _ 8 c.in-Quote.ensures refl) c.string.ensures

pub returns-in-Sign : goal.returns-in-Sign
unfolding lexeme_of token_of
returns-in-Sign c = one_byte T.Sign tt refl (lex_sign _ _ 9 c.in-Sign.ensures refl) c.spanning-in-Sign.ensures

pub returns-in-Call : goal.returns-in-Call
returns-in-Call c = tells_as (lex-call _ _ 10 c.in-Call.ensures refl) c.call.ensures

pub returns-in-Star : goal.returns-in-Star
returns-in-Star c = tells_as (lex_star _ _ 11 c.in-Star.ensures refl) c.starred.ensures

pub returns-in-Other : goal.returns-in-Other
returns-in-Other c = tells_wrong c.spanning-in-Other.ensures (lex_other _ _ _ c.class_of.ensures c.in-Other.is)
