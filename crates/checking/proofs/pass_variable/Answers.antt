use native.Mathlib.Omega.{arith}
use Rattle.checking.specs.Passing.{leaves}
use Rattle.checking.proofs.Passing.{few, old_passed, new_passed}
use Rattle.checking.proofs.pass_variable.Goals as goal

pub returns-then-number-gt15 : goal.returns-then-number-gt15
returns-then-number-gt15 c = λ st R. leaves

pub returns-then-state-eq-RIGHT : goal.returns-then-state-eq-RIGHT
returns-then-state-eq-RIGHT c = λ st R. leaves

pub returns-then-state-gt15 : goal.returns-then-state-gt15
returns-then-state-gt15 c = λ st R. leaves

pub overflow_add-state : goal.overflow_add-state
overflow_add-state c = omega (arith, few c.args.state c.requires.0)

pub returns-then-not-is_fresh : goal.returns-then-not-is_fresh
returns-then-not-is_fresh c =
    λ st R. old_passed c.args.state c.requires.0 _ _ c.requires.1 c.requires.2 c.if-number-gt15.false st R c.is_fresh.ensures
    (c.if-not-is_fresh.true)

pub overflow_cast-number : goal.overflow_cast-number
overflow_cast-number c = omega (arith, c.if-number-gt15.false)

pub slot-requires : goal.slot-requires
slot-requires c = (c.requires.1, c.requires.2, c.if-number-gt15.false)

pub returns : goal.returns
returns c =
    λ st R. new_passed c.args.state c.requires.0 _ _ c.requires.1 c.requires.2 c.if-number-gt15.false st R
    c.is_fresh.ensures (c.if-not-is_fresh.false) c.if-state-eq-RIGHT.false (omega arith) c.slot.ensures.0
    c.with-state.ensures
