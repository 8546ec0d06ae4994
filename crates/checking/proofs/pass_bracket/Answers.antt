use mathlib.Core.Path.{◌≡◌}
use Prim.Native.Nat.{◌<◌, ◌≤◌}
use mathlib.Core.Logic.{◌⊎◌, inl, inr}
use native.Mathlib.Omega.{arith}
use Rattle.taking.proofs.Tests.{told}
use Rattle.checking.specs.Passing.{leaves}
use Rattle.checking.proofs.Passing.{few, shallow, bracket_passed}
use Rattle.checking.proofs.pass_bracket.Goals as goal
use Rattle.checking.proofs.pass_bracket.Goals.{then-kind-gt-CLOSE+else-state-ne-RIGHT, else-kind-gt-CLOSE}

pub returns-then-state-ne-RIGHT : goal.returns-then-state-ne-RIGHT
returns-then-state-ne-RIGHT c = λ n. leaves

pub returns-then-not-is_paired : goal.returns-then-not-is_paired
returns-then-not-is_paired c = λ n. leaves

pub brackets_after-requires : goal.brackets_after-requires
brackets_after-requires c = (shallow _ _ c.requires.0 c.requires.1, told c.is_paired.ensures c.if-not-is_paired.false)

pub overflow_add-state : goal.overflow_add-state
overflow_add-state c = omega (arith, few c.args.state c.requires.0)

pub returns : goal.returns
returns c =
    let side = elim c.if-kind-gt-CLOSE.branch as (λ _. ((5 < c.args.kind) × (c.args.state.part ≡ 4)) ⊎ (c.args.kind ≤ 5)) [
      | then-kind-gt-CLOSE+else-state-ne-RIGHT w ↦ inl (w.if-kind-gt-CLOSE.true, w.if-state-ne-RIGHT.false)
      | else-kind-gt-CLOSE w ↦ inr w.if-kind-gt-CLOSE.false
    ] in
    λ n. bracket_passed _ c.requires.0 _ n c.requires.2 c.requires.3 side _ c.requires.1
    (told c.is_paired.ensures c.if-not-is_paired.false) _ _ c.brackets_after.ensures.0 c.brackets_after.ensures.1
