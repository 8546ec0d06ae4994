use Rattle.checking.specs.Passing.{leaves}
use mathlib.Core.Logic.{inl, inr}
use native.Mathlib.Omega.{arith}
use Rattle.checking.proofs.pass_element.Goals as goal

pub returns-in-Character : goal.returns-in-Character
returns-in-Character c =
    elim c.in-Character.is [
      | inl (n, e) ↦ rw e (c.pass_symbol.ensures _ _ _ c.requires.1 (omega arith) (omega arith))
      | inr (inl (n, e)) ↦ rw e (c.pass_symbol.ensures _ _ _ c.requires.1 (omega arith) (omega arith))
      | inr (inr (n, e)) ↦ rw e (c.pass_symbol.ensures _ _ _ c.requires.1 (omega arith) (omega arith))
    ]

pub returns-in-Open : goal.returns-in-Open
returns-in-Open c = rw c.in-Open.is (c.pass_bracket.ensures _)

pub returns-in-Close : goal.returns-in-Close
returns-in-Close c = rw c.in-Close.is (c.pass_bracket-in-Close.ensures _)

pub returns-in-Call : goal.returns-in-Call
returns-in-Call c = rw c.in-Call.is (c.pass_bracket-in-Call.ensures _)

pub returns-in-Return : goal.returns-in-Return
returns-in-Return c = rw c.in-Return.is (c.pass_bracket-in-Return.ensures _)

pub returns-in-SVariable : goal.returns-in-SVariable
returns-in-SVariable c = rw c.in-SVariable.is (c.pass_variable.ensures _ c.requires.1)

pub returns-in-TVariable : goal.returns-in-TVariable
returns-in-TVariable c = rw c.in-TVariable.is (c.pass_variable-in-TVariable.ensures _ c.requires.1)

pub returns-in-EVariable : goal.returns-in-EVariable
returns-in-EVariable c = rw c.in-EVariable.is (c.pass_variable-in-EVariable.ensures _ c.requires.1)

pub returns-in_default : goal.returns-in_default
returns-in_default c = leaves
