use Rattle.building.proofs.Spans.{walk}
use Rattle.building.proofs.Filling.{build_room, building_more, built}
use Rattle.building.proofs.build.Goals as goal

pub put_element-n-requires : goal.put_element-n-requires
put_element-n-requires c =
    let i = c.loop-at.invariant in
    let w = walk _ _ _ _ _ c.requires.in_program.1 c.loop-at-test.true i.whole i.ready _ c.length_of-len.ensures.0 in
    record {
      known = w.known;
      program_in_bounds = build_room _ _ _ _ _ _ _ _ _ _ i _ w c.requires.room;
    }

pub loop-at-preserved : goal.loop-at-preserved
loop-at-preserved c =
    let i = c.loop-at.invariant in
    let w = walk _ _ _ _ _ c.requires.in_program.1 c.loop-at-test.true i.whole i.ready _ c.length_of-len.ensures.0 in
    let u = c.put_element-n.ensures in
    building_more _ _ _ _ _ _ _ _ _ _ i _ w _ _ u.0 u.1 c.put_element-n.auto.out

pub returns : goal.returns
returns c = built _ _ _ _ _ _ _ _ _ _ c.loop-at.invariant c.loop-at-test.false c.requires.in_program.1
