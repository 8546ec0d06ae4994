use mathlib.Core.Path.{sym, ◌∙◌}
use native.Mathlib.Omega.{arith}
use Rattle.taking.proofs.Tests.{told}
use Rattle.checking.proofs.Passing.{end_movable}
use Rattle.checking.proofs.Reading.{ended}
use Rattle.checking.proofs.pass_end.Goals as goal

pub state_after-requires : goal.state_after-requires
state_after-requires c = end_movable c.args.state _ (told c.ends_side.ensures c.if-not-ends_side.false)

pub returns : goal.returns
returns c = (
  omega (arith, c.pass-passed.ensures.next_is),
  λ st found R. ended R c.if-bytes-at.false c.pass-passed.ensures.kind_is c.pass-passed.ensures.next_is (told c.ends_side.ensures c.if-not-ends_side.false) (sym c.in_ok-to.was ∙ c.next_part.ensures)
      c.if-state-ne0.false c.state_after.ensures,
)
