use Rattle.scanning.proofs.Scan.{reached_open, in_field}
use native.Mathlib.Omega.{arith}
use Rattle.scanning.proofs.Spread.advance.Goals as goal

pub bounds-field-at : goal.bounds-field-at
bounds-field-at c =
    let n = c.next_mark-mark.ensures in
    in_field _ _ _ _ _ _ _ _ _ _ _ c.loop-at.invariant _ _ _ _ _ _ n.0 n.1 n.2 n.3 _ c.in-Some.is

pub pass_call-s-requires : goal.pass_call-s-requires
pass_call-s-requires c =
    let i = c.loop-at.invariant in
    let l = i.long in
    let r = i.room in
    let n = c.next_mark-mark.ensures in
    record {
      good = rw (n.0, n.1) i.good;
      roomy = (omega arith, omega arith);
      reached = reached_open _ _ _ _ _ _ _ _ _ _ _ i _ _ _ _ _ _ n.0 n.1 n.2 n.3 _ c.in-Some.is c.if-field-at-eq-RETURN.false;
    }
