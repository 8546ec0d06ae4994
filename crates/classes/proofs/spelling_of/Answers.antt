use mathlib.Core.Path.{refl}
use Rattle.classes.proofs.Bytes.{spelling_capital, spelling_same, spelling_dash, spelling_outside, capital_fits, same_in}
use Rattle.classes.proofs.Order.{no_name}
use borrow.Author.Rules.{rules}
use Rattle.classes.proofs.spelling_of.Goals as goal

pub overflow_add-result : goal.overflow_add-result
overflow_add-result c = record { fits = capital_fits c.args.b 3 c.in-Capital.ensures (search rules) refl }

pub returns-in-Capital : goal.returns-in-Capital
returns-in-Capital c = spelling_capital c.args.b 3 c.in-Capital.ensures (search rules) refl

pub returns-in-Small : goal.returns-in-Small
returns-in-Small c = spelling_same c.args.b _ c.class_of.ensures (search rules) (same_in _ c.in-Small.is)

pub returns-in-Dash : goal.returns-in-Dash
returns-in-Dash c = spelling_dash c.args.b 7 c.in-Dash.ensures (search rules) refl

pub returns-in_default : goal.returns-in_default
returns-in_default c =
    let n = c.in_default in
    spelling_outside c.args.b _ c.class_of.ensures (search rules) (no_name _ n.not-Capital n.not-Small n.not-Typed n.not-Digit n.not-Dash)
