use native.Mathlib.Omega.{arith}
use Rattle.taking.proofs.Tests.{fresh_plain, fresh_high, fresh-not, told}
use Rattle.meaning.specs.Elements.{is_variable}
use Rattle.meaning.specs.Goodness.{span}
use Rattle.meaning.proofs.Truth.{span_le}
use Rattle.taking.proofs.is_fresh.Goals as goal

pub returns-then-not-is_variable : goal.returns-then-not-is_variable
unfolding is_variable span
returns-then-not-is_variable c = fresh_plain _ _ _ (told c.is_variable.ensures c.if-not-is_variable.true)

pub returns-then-number-gt15 : goal.returns-then-number-gt15
returns-then-number-gt15 c = fresh_high _ _ _ c.if-number-gt15.true

pub overflow_cast-number : goal.overflow_cast-number
overflow_cast-number c = omega (arith, c.if-number-gt15.false)

pub slot-requires : goal.slot-requires
unfolding is_variable span
slot-requires c = let q = span_le 8 10 _ (told c.is_variable.ensures c.if-not-is_variable.false) in (q.0, q.1, c.if-number-gt15.false)

pub returns : goal.returns
unfolding is_variable span
returns c =
    fresh-not _ _ _ _ _ c.has.ensures c.slot.ensures.0 (told c.is_variable.ensures c.if-not-is_variable.false) c.if-number-gt15.false
