use borrow.Author.Rules.{rules}
use mathlib.Core.Path.{refl, sym, ◌∙◌}
use Rattle.elements.proofs.Places.{known_as}
use Rattle.taking.specs.Standing.{tests_of}
use Rattle.taking.proofs.Tests.{fails, stands_no, stands_yes}
use Rattle.taking.proofs.Stepping.{handed, misplaced, refused, can_open, can_move, accepted}
use Rattle.taking.proofs.take.Goals as goal

pub test-requires : goal.test-requires
test-requires c = (stands_yes _ _ (sym c.in_ok-to.ensures.ok_part ∙ c.next_part.ensures), (search rules))

pub returns-in_err-to : goal.returns-in_err-to
unfolding tests_of
returns-in_err-to c =
    let k = c.kind_of-kind.ensures in
    let n = c.number_of-number.ensures in
    let z = stands_no _ _ (sym c.in_err-to.ensures.ok_part ∙ c.next_part.ensures) in
    rw (handed _ c.from_residual.ensures.1, ← k, ← n) (refused _ _ _ _ _ refl _ (fails 3 _ z) (misplaced c.in_err-to.ensures.value c.in_err-to.ensures.ok_part))

pub returns-in_err-test : goal.returns-in_err-test
returns-in_err-test c =
    let k = c.kind_of-kind.ensures in
    let n = c.number_of-number.ensures in
    rw (handed _ c.from_residual-in_err-test.ensures.1, ← k, ← n) (refused _ _ _ _ _ c.is_fresh-new.ensures _ c.in_err-test.ensures refl)

pub brackets_after-depth-requires : goal.brackets_after-depth-requires
brackets_after-depth-requires c =
    let k = known_as c.args.e c.kind_of-kind.ensures in
    can_open _ _ _ _ _ c.is_fresh-new.ensures _ c.in_ok-test.ensures refl c.requires k

pub state_after-requires : goal.state_after-requires
state_after-requires c =
    let k = known_as c.args.e c.kind_of-kind.ensures in
    can_move _ _ _ _ _ c.is_fresh-new.ensures _ c.in_ok-test.ensures refl c.requires k (search rules)

pub returns : goal.returns
returns c =
    let e = c.kind_of-kind.ensures in
    let n = c.number_of-number.ensures in
    let k = known_as c.args.e e in
    let to = sym c.in_ok-to.ensures.ok_part ∙ c.next_part.ensures in
    rw (← e, ← n) (accepted _ _ _ _ _ c.is_fresh-new.ensures _ c.in_ok-test.ensures refl c.requires k
    _ to _ _ _ c.brackets_after-depth.ensures.0 c.brackets_after-depth.ensures.1 c.state_after.ensures)
