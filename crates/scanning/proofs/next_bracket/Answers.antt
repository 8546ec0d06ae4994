use mathlib.Core.Path.{refl, sym, ◌∙◌}
use native.Mathlib.Omega.{arith}
use Rattle.elements.proofs.Levels.{characters_on}
use Rattle.scanning.proofs.Scan.{here_open, here_close, seek_next, seek_on, seek_end}
use Rattle.scanning.proofs.next_bracket.Goals as goal

pub returns-then-passed-eq-CALL : goal.returns-then-passed-eq-CALL
returns-then-passed-eq-CALL c =
    (here_open _ _ _ c.loop-c.invariant c.loop-c-test.true (sym c.pass-passed.ensures.kind_is ∙ c.if-passed-eq-CALL.true), c.loop-c-test.true)

pub returns-then-passed-eq-RETURN : goal.returns-then-passed-eq-RETURN
returns-then-passed-eq-RETURN c =
    (here_close _ _ _ c.loop-c.invariant c.loop-c-test.true (sym c.pass-passed.ensures.kind_is ∙ c.if-passed-eq-RETURN.true), c.loop-c-test.true)

pub loop-c-smaller : goal.loop-c-smaller
loop-c-smaller c =
    omega (arith, characters_on c.past_characters-c.ensures, c.loop-c-test.true, c.pass-passed.ensures.next_is)

pub loop-c-preserved : goal.loop-c-preserved
loop-c-preserved c =
    let k = c.pass-passed.ensures.kind_is in
    let n = seek_next _ _ _ c.loop-c.invariant c.loop-c-test.true (λ z. c.if-passed-eq-CALL.false (k ∙ z))
    (λ z. c.if-passed-eq-RETURN.false (k ∙ z)) _ refl in
    seek_on (omega arith) (rw (← c.pass-passed.ensures.next_is) at n) c.past_characters-c.ensures

pub returns : goal.returns
returns c =
    let e = seek_end _ _ _ c.loop-c.invariant c.loop-c-test.false in
    let u = c.loop-c.invariant.upto in
    omega (arith, e, u, c.loop-c-test.false)
