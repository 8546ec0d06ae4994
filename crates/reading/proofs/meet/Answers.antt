use borrow.Enum.Refused.{opened}
use native.Mathlib.Omega.{arith}
use Rattle.names.specs.Names.{key_at}
use Rattle.reading.proofs.Meeting.{met_as_name, met_as_call, met_as_variable, met_as_other, variables_few, variable_small, names_fit, calls_fit, proper_as}
use Rattle.reading.proofs.meet.Goals as goal

pub number-requires-clause-at_in_bounds : goal.number-requires-clause-at_in_bounds
unfolding key_at
number-requires-clause-at_in_bounds c =
    let p = proper_as c.args.names.now.text.now c.args.at c.args.lexeme.end c.in-Name.is c.requires.proper.0 in
    (c.requires.in_text, p.1)

pub number-requires-in-Call-clause-at_in_bounds : goal.number-requires-in-Call-clause-at_in_bounds
unfolding key_at
number-requires-in-Call-clause-at_in_bounds c =
    let p = proper_as c.args.names.now.text.now c.args.at c.args.lexeme.end c.in-Call.is c.requires.proper.0 in
    (p.0, p.1)

pub number-requires-in-Variable-clause-room : goal.number-requires-in-Variable-clause-room
number-requires-in-Variable-clause-room c = omega (arith, variables_few c.requires.sentence)

pub overflow_cast-result-in-Variable : goal.overflow_cast-result-in-Variable
overflow_cast-result-in-Variable c =
    record { fits = omega (arith, variable_small c.requires.sentence c.number-in-Variable.ensures) }

pub returns-in-Name : goal.returns-in-Name
returns-in-Name c =
    let p = proper_as c.args.names.now.text.now c.args.at c.args.lexeme.end c.in-Name.is c.requires.proper.0 in
    met_as_name (names_fit c.args.names.now.short c.requires.in_text p c.requires.proper.1) c.in-Name.is c.number.ensures

pub returns-in-Call : goal.returns-in-Call
returns-in-Call c =
    let p = proper_as c.args.names.now.text.now c.args.at c.args.lexeme.end c.in-Call.is c.requires.proper.0 in
    met_as_call (calls_fit c.args.names.now.short p c.requires.proper.1) c.in-Call.is c.number-in-Call.ensures

pub returns-in-Variable : goal.returns-in-Variable
returns-in-Variable c = met_as_variable c.requires.sentence c.type_of.ensures c.number-in-Variable.ensures c.in-Variable.is

pub returns-in_default : goal.returns-in_default
returns-in_default c = met_as_other c.args.lexeme.token (opened c.in_default.in_default-own.keys4)
