use mathlib.Core.Path.{refl, ◌∙◌}
use native.Mathlib.Omega.{arith}
use Rattle.taking.proofs.Tests.{told}
use Rattle.checking.proofs.Reading.{here, ready}
use Rattle.checking.proofs.pass_sentences.Goals as goal

pub loop-stack-init : goal.loop-stack-init
loop-stack-init c = (refl, omega arith, λ found R. R)

pub pass_side-side-requires : goal.pass_side-side-requires
pass_side-side-requires c =
    let C = (c.loop-stack.invariant.2 _ (c.enter-state.ensures _ _ (here _ _ _ _ c.requires.0 c.requires.1 c.requires.2))) in
    (told c.between.ensures c.loop-stack-test.true, ready C, C.inside)

pub pass_end-requires : goal.pass_end-requires
pass_end-requires c =
    ((c.pass_side-side.ensures.1 _ (c.loop-stack.invariant.2 _ (c.enter-state.ensures _ _ (here _ _ _ _ c.requires.0 c.requires.1 c.requires.2)))).means.part)

pub shape_of-stack-in_default : goal.shape_of-stack-in_default
shape_of-stack-in_default c = c.pass_side-side.auto.stack ∙ c.loop-stack.invariant.0

pub returns-in_default : goal.returns-in_default
returns-in_default c =
    (omega (arith, c.loop-stack.invariant.1, c.pass_side-side.ensures.0), λ found R. c.pass_side-side.ensures.1 found (c.loop-stack.invariant.2 found (c.enter-state.ensures _ found R)))

pub loop-stack-smaller : goal.loop-stack-smaller
loop-stack-smaller c =
    omega (
      arith,
      (c.in-Some.ensures.1 _ _
          (c.pass_side-side.ensures.1 _ (c.loop-stack.invariant.2 _ (c.enter-state.ensures _ _ (here _ _ _ _ c.requires.0 c.requires.1 c.requires.2))))).inside,
      c.pass_side-side.ensures.0,
      c.in-Some.ensures.0,
    )

pub loop-stack-preserved : goal.loop-stack-preserved
loop-stack-preserved c = (
  c.pass_side-side.auto.stack ∙ c.loop-stack.invariant.0,
  omega (arith, c.loop-stack.invariant.1, c.pass_side-side.ensures.0, c.in-Some.ensures.0),
  λ found R. c.enter-state-in-loop-stack.ensures _ found (c.in-Some.ensures.1 _ found (c.pass_side-side.ensures.1 found (c.loop-stack.invariant.2 found R))),
)

pub shape_of-stack : goal.shape_of-stack
shape_of-stack c = c.loop-stack.invariant.0

pub returns : goal.returns
returns c = (c.loop-stack.invariant.1, λ found R. c.loop-stack.invariant.2 found (c.enter-state.ensures _ found R))
