use mathlib.Core.Path.{◌≡◌}
use native.Mathlib.Omega.{arith}
use Rattle.elements.proofs.Levels.{seek_on, seek_over, seek_shut, seek_done}
use Rattle.elements.proofs.shut_end.Goals as goal

pub bounds-s-i : goal.bounds-s-i
bounds-s-i c =
    let o = seek_over c.loop-depth.invariant c.loop-depth-test.true c.past_characters-c.ensures in
    o.inside

pub loop-depth-smaller-then-s-i-eq-CLOSE : goal.loop-depth-smaller-then-s-i-eq-CLOSE
loop-depth-smaller-then-s-i-eq-CLOSE c =
    let o = seek_over c.loop-depth.invariant c.loop-depth-test.true c.past_characters-c.ensures in
    omega (arith, o.on, o.inside)

pub loop-depth-preserved-then-s-i-eq-CLOSE : goal.loop-depth-preserved-then-s-i-eq-CLOSE
loop-depth-preserved-then-s-i-eq-CLOSE c =
    let o = seek_over c.loop-depth.invariant c.loop-depth-test.true c.past_characters-c.ensures in
    seek_shut o.seeking c.loop-depth-test.true c.if-s-i-eq-CLOSE.true

pub pass-passed-requires : goal.pass-passed-requires
pass-passed-requires c =
    let o = seek_over c.loop-depth.invariant c.loop-depth-test.true c.past_characters-c.ensures in
    o.inside

pub loop-depth-smaller : goal.loop-depth-smaller
loop-depth-smaller c =
    let o = seek_over c.loop-depth.invariant c.loop-depth-test.true c.past_characters-c.ensures in
    omega (arith, o.on, o.inside, c.pass-passed.ensures.next_is)

pub loop-depth-preserved : goal.loop-depth-preserved
loop-depth-preserved c =
    let o = seek_over c.loop-depth.invariant c.loop-depth-test.true c.past_characters-c.ensures in
    rw (c.depth_after-depth.ensures, c.pass-passed.ensures.next_is, c.pass-passed.ensures.kind_is) (seek_on _ _ _ _ o.seeking c.loop-depth-test.true)

pub returns : goal.returns
returns c = seek_done _ _ _ (let e : c.loop-depth.depth ≡ 0 = omega arith in rw e at c.loop-depth.invariant)
