use mathlib.Core.Path.{refl, ◌∙◌}
use native.Mathlib.Omega.{arith}
use lib.ListN.{get_or}
use Rattle.meaning.specs.Elements.{body}
use Rattle.putting.specs.Putting.{leads, stops}
use Rattle.putting.proofs.Putting.{going_from, going_able, led, barred}
use Rattle.putting.proofs.Characters.{past_more, turn, turn_bad, turn_over}
use Rattle.putting.proofs.put_characters.Goals as goal

pub loop-i-init : goal.loop-i-init
loop-i-init c = (going_from _ _ _ _, c.requires.1, c.requires.0, refl, refl)

pub bounds-text-i : goal.bounds-text-i
bounds-text-i c = let (g, h, a, l, m) = c.loop-i.invariant in omega (arith, h.inside, c.loop-i-test.true)

pub put-requires : goal.put-requires
unfolding body
put-requires c =
    let (g, h, a, l, m) = c.loop-i.invariant in
    let (ek, en, eb) = c.character.ensures in
    (going_able a g, rw (ek, en) eb)

pub shape_of-stack-in_err-next : goal.shape_of-stack-in_err-next
shape_of-stack-in_err-next c =
    let (g, h, a, l, m) = c.loop-i.invariant in
    c.put.auto.stack ∙ l

pub shape_of-buf-in_err-next : goal.shape_of-buf-in_err-next
shape_of-buf-in_err-next c =
    let (g, h, a, l, m) = c.loop-i.invariant in
    c.put.auto.buf ∙ m

pub returns-in_err-next : goal.returns-in_err-next
returns-in_err-next c =
    let (g, h, a, l, m) = c.loop-i.invariant in
    let b = rw (c.character.ensures.0, c.character.ensures.1) at (barred c.in_err-next.ensures) in
    rw c.from_residual.ensures (stops (turn_bad g h c.loop-i-test.true b))

pub past_character-requires : goal.past_character-requires
past_character-requires c =
    let (g, h, a, l, m) = c.loop-i.invariant in
    omega (arith, h.inside, c.loop-i-test.true)

pub put_run-run-requires : goal.put_run-run-requires
put_run-run-requires c =
    let (g, h, a, l, m) = c.loop-i.invariant in
    (turn g h c.loop-i-test.true c.past_character.ensures
    (rw (c.character.ensures.0, c.character.ensures.1) at (led c.in_ok-next.ensures))).1

pub loop-i-smaller : goal.loop-i-smaller
loop-i-smaller c =
    omega (
      arith,
      c.loop-i-test.true,
      c.past_character.ensures,
      c.put_run-run.ensures.0,
      past_more c.loop-i.i (get_or c.args.text.now c.loop-i.i 0) c.args.quote,
    )

pub loop-i-preserved : goal.loop-i-preserved
loop-i-preserved c =
    let (g, h, a, l, m) = c.loop-i.invariant in
    let t = turn g h c.loop-i-test.true c.past_character.ensures (rw (c.character.ensures.0, c.character.ensures.1) at (led c.in_ok-next.ensures))
    in
    let r = c.put_run-run.ensures.1 in
    (r.going _ _ _ _ _ a t.0, r.shut, a, c.put.auto.stack ∙ l, c.put_run-run.auto.buf ∙ c.put.auto.buf ∙ m)

pub shape_of-stack : goal.shape_of-stack
shape_of-stack c = let (g, h, a, l, m) = c.loop-i.invariant in l

pub shape_of-buf : goal.shape_of-buf
shape_of-buf c = let (g, h, a, l, m) = c.loop-i.invariant in m

pub returns : goal.returns
returns c = let (g, h, a, l, m) = c.loop-i.invariant in leads (turn_over g h c.loop-i-test.false)
