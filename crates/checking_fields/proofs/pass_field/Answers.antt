use mathlib.Core.Path.{refl, sym, ◌∙◌, ap}
use mathlib.Core.Logic.{⊎_elim}
use native.Mathlib.Omega.{arith}
use Rattle.elements.proofs.Levels.{characters_on}
use Rattle.elements.proofs.Places.{unread}
use Rattle.checking_fields.specs.Answers.{check_of}
use Rattle.checking_fields.proofs.Fields.{begun, got_on, turned, bad_turn, bad_kind, bad_cut, ended_good, ended_early, all}
use Rattle.checking_fields.proofs.pass_field.Goals as goal

pub loop-c-init : goal.loop-c-init
loop-c-init c = (begun _ _, refl)

pub returns-in_default : goal.returns-in_default
returns-in_default c =
    let i = c.loop-c.invariant.0 in
    sym (ap check_of (⊎_elim (bad_kind i) (bad_cut i) (unread (rw c.in_default.is at c.read.ensures) c.loop-c-test.true)))

pub returns-in_default-depth_behind : goal.returns-in_default-depth_behind
returns-in_default-depth_behind c =
    let got = rw c.in-Ok.is at c.read.ensures in
    sym (ap check_of (bad_turn c.loop-c.invariant.0 got (rw c.in_default-depth_behind.is at c.depth_behind.ensures)))

pub loop-c-smaller : goal.loop-c-smaller
loop-c-smaller c = omega (arith, got_on (rw c.in-Ok.is at c.read.ensures), characters_on c.onward-c.ensures)

pub loop-c-preserved : goal.loop-c-preserved
loop-c-preserved c =
    let i = c.loop-c.invariant in
    let got = rw c.in-Ok.is at c.read.ensures in
    let t = turned i.0 got c.in-Some.ensures in
    (all (omega arith) t c.onward-c.ensures, c.depth_behind.auto.stack ∙ i.1)

pub returns-then-depth-eq0 : goal.returns-then-depth-eq0
returns-then-depth-eq0 c = sym (ap check_of (ended_good c.loop-c.invariant.0 c.loop-c-test.false c.if-depth-eq0.true))

pub returns-else-depth-eq0 : goal.returns-else-depth-eq0
returns-else-depth-eq0 c = sym (ap check_of (ended_early c.loop-c.invariant.0 c.loop-c-test.false c.if-depth-eq0.false))
