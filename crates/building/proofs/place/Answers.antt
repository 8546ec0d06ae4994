use Rattle.building.proofs.Placing.{parts_long, value_inside, placed_all}
use native.Mathlib.Omega.{arith}
use Rattle.building.proofs.place.Goals as goal

pub fill-built-requires : goal.fill-built-requires
fill-built-requires c =
    let a = c.requires.in_program in
    let r = c.requires.ready in
    let k = c.requires.room in
    let q = c.pivot_part-value.ensures _ _ a.3 a.2 a.0 a.1 r in
    let h = c.requires.hi_le_at in
    record {
      in_program = (q.upto.0, q.upto.1, q.upto_next, a.1);
      before = q.before;
      behind = q.after;
      room = (let z = parts_long _ _ _ _ _ _ _ _ _ _ _ h.0 h.1 q r in let y = k.0 in let x = k.1 in let w = h.1 in omega arith);
    }

pub put_in-requires : goal.put_in-requires
put_in-requires c =
    let a = c.requires.in_program in
    let r = c.requires.ready in
    let k = c.requires.room in
    let q = c.pivot_part-value.ensures _ _ a.3 a.2 a.0 a.1 r in
    let h = c.requires.hi_le_at in
    let u = c.fill-built.ensures in
    let z = parts_long _ _ _ _ _ _ _ _ _ _ _ h.0 h.1 q r in
    let i = value_inside _ _ _ _ _ _ _ _ _ _ _ h.0 h.1 q r in
    let u0 = u.0 in
    let u1 = u.1 in
    let k1 = k.0 in
    let k2 = k.1 in
    let h1 = h.1 in
    let l = c.fill-built.auto.scratch in
    (omega arith, omega arith, i, omega arith, omega arith)

pub returns : goal.returns
returns c =
    let a = c.requires.in_program in
    let r = c.requires.ready in
    let q = c.pivot_part-value.ensures _ _ a.3 a.2 a.0 a.1 r in
    let h = c.requires.hi_le_at in
    let u = c.fill-built.ensures in
    placed_all _ _ _ _ _ _ _ _ _ _ _ h.0 h.1 q r _ _ _ _ u.0 u.1 u.2 u.3 c.put_in.ensures
