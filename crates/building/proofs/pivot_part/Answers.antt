use native.Mathlib.Omega.{arith}
use Rattle.building.proofs.Placing.{parted_end, turn, inside, step, two, sorts, value, parted_at}
use borrow.Author.Rules.{rules}
use Rattle.building.proofs.pivot_part.Goals as goal

pub returns-then-pivot-to : goal.returns-then-pivot-to
returns-then-pivot-to c = λ arg from piv w up fits r. rw c.if-pivot-to.true (parted_end _ _ _ _ _ w up fits r)

pub bounds-program-pivot : goal.bounds-program-pivot
bounds-program-pivot c =
    let P = c.requires in
    let g = P.given in
    let k = inside _ _ _ _ _ _ (turn P.pivot_is c.if-pivot-to.false) P.whole g.upto g.fits g.ready in
    let z = g.fits in
    omega arith

pub overflow_add-pivot : goal.overflow_add-pivot
overflow_add-pivot c =
    let P = c.requires in
    let g = P.given in
    let k = inside _ _ _ _ _ _ (turn P.pivot_is c.if-pivot-to.false) P.whole g.upto g.fits g.ready in
    let z = g.fits in
    search rules

pub bounds-program-pivot-2 : goal.bounds-program-pivot-2
bounds-program-pivot-2 c =
    let P = c.requires in
    let g = P.given in
    let T = turn P.pivot_is c.if-pivot-to.false in
    let k = (step _ _ _ _ _ _ T P.whole g.upto g.fits g.ready).within in
    let t = two _ _ _ _ _ _ T P.whole g.upto g.fits g.ready in
    let z = g.fits in
    omega arith

pub slot-slot-requires : goal.slot-slot-requires
slot-slot-requires c =
    let P = c.requires in
    let g = P.given in
    let T = turn P.pivot_is c.if-pivot-to.false in
    let s = sorts _ _ _ _ _ _ T P.whole g.upto g.fits g.ready in
    let l = (value _ _ _ _ _ _ T P.whole g.upto g.fits g.ready).low in
    (s.0, s.1, omega arith)

pub overflow_add-result-2 : goal.overflow_add-result-2
overflow_add-result-2 c =
    let P = c.requires in
    let g = P.given in
    let T = turn P.pivot_is c.if-pivot-to.false in
    let k = (step _ _ _ _ _ _ T P.whole g.upto g.fits g.ready).within in
    let t = two _ _ _ _ _ _ T P.whole g.upto g.fits g.ready in
    let z = g.fits in
    omega arith

pub returns : goal.returns
returns c =
    λ arg from piv w up fits r. rw c.slot-slot.ensures.0 (parted_at _ _ _ _ _ _ (turn piv c.if-pivot-to.false) w up fits r)
