use native.Mathlib.Omega.{arith}
use Rattle.building.proofs.Spans.{walk}
use Rattle.building.proofs.Filling.{on_room, note_room, noting_more, noted, call-span}
use Rattle.building.proofs.note.Goals as goal

pub note_one-k-requires : goal.note_one-k-requires
note_one-k-requires c =
    let i = c.loop-i.invariant.1 in
    let w = walk _ _ _ _ _ c.requires.given.fits c.loop-i-test.true i.whole i.ready _ c.length_of-len.ensures.0 in
    let q = c.requires.room in
    λ z. note_room _ _ _ _ _ _ _ _ _ _ _ _ i _ w q.0 q.1 z (call-span _ _ _ _ _ _ w z)

pub span_of-at-requires : goal.span_of-at-requires
span_of-at-requires c =
    let i = c.loop-i.invariant.1 in
    let w = walk _ _ _ _ _ c.requires.given.fits c.loop-i-test.true i.whole i.ready _ c.length_of-len.ensures.0 in
    record { arg = c.loop-i.invariant.0; known = w.known }

pub overflow_add-at : goal.overflow_add-at
overflow_add-at c =
    let i = c.loop-i.invariant.1 in
    let w = walk _ _ _ _ _ c.requires.given.fits c.loop-i-test.true i.whole i.ready _ c.length_of-len.ensures.0 in
    let q = on_room _ _ _ _ _ _ _ _ _ _ _ _ i _ w c.requires.room.0 in
    let e = c.span_of-at.ensures in
    omega arith

pub loop-i-preserved : goal.loop-i-preserved
loop-i-preserved c =
    let i = c.loop-i.invariant.1 in
    let w = walk _ _ _ _ _ c.requires.given.fits c.loop-i-test.true i.whole i.ready _ c.length_of-len.ensures.0 in
    let u = c.note_one-k.ensures in
    (c.loop-i.invariant.0, rw c.span_of-at.ensures (noting_more _ _ _ _ _ _ _ _ _ _ _ _ i _ w _ _ u.0 u.1))

pub returns : goal.returns
returns c = noted _ _ _ _ _ _ _ _ _ _ _ _ c.loop-i.invariant.1 c.loop-i-test.false c.requires.given.fits
