use mathlib.Core.Logic.{inl, inr}
use borrow.Enum.Refused.{opened}
use Rattle.checking_fields.proofs.Turns.{turn_character, turn_name, turn_macrodigit, turn_open, turn_close, turn_call, turn_return, turn_other}
use Rattle.checking_fields.proofs.depth_behind.Goals as goal

pub returns-in-Character : goal.returns-in-Character
returns-in-Character c =
    elim c.in-Character.is [
      | inl (n, e) ↦ rw e (turn_character _)
      | inr (inl (n, e)) ↦ rw e (turn_name _)
      | inr (inr (n, e)) ↦ rw e (turn_macrodigit _)
    ]

pub returns-in-Open : goal.returns-in-Open
returns-in-Open c = rw c.in-Open.is (turn_open c.requires)

pub returns-in-Close : goal.returns-in-Close
returns-in-Close c = rw c.in-Close.is (turn_close c.closed.ensures)

pub returns-in-Call : goal.returns-in-Call
returns-in-Call c = rw c.in-Call.is (turn_call _ c.requires)

pub returns-in-Return : goal.returns-in-Return
returns-in-Return c = rw c.in-Return.is (turn_return c.closed-in-Return.ensures)

pub returns-in_default : goal.returns-in_default
returns-in_default c = turn_other _ (opened c.in_default.in_default-own.keys6)
