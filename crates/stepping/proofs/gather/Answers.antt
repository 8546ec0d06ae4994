use mathlib.Core.Path.{refl}
use native.Mathlib.Omega.{arith}
use Rattle.stepping.proofs.Leads.{may_gather, gathered_same, gathered_good, gathered}
use Rattle.stepping.proofs.gather.Goals as goal

pub overflow_sub-last : goal.overflow_sub-last
overflow_sub-last c = (may_gather _ _ _ _ _ _ _ _ c.requires.good c.requires.reached.0 c.requires.reached.1 _ refl).0

pub overflow_sub-n : goal.overflow_sub-n
overflow_sub-n c = (may_gather _ _ _ _ _ _ _ _ c.requires.good c.requires.reached.0 c.requires.reached.1 _ refl).2

pub shift-requires : goal.shift-requires
shift-requires c =
    let (_, _, a, b, d, e) = may_gather _ _ _ _ _ _ _ _ c.requires.good c.requires.reached.0 c.requires.reached.1 _ refl in
    record { n_in_bounds = omega arith; n_in_bounds_2 = omega arith }

pub returns : goal.returns
returns c =
    let e = c.shift.ensures in
    let g = c.requires.good in
    let r = c.requires.reached.0 in
    let s = c.requires.reached.1 in
    record {
      led = (refl, refl, (may_gather _ _ _ _ _ _ _ _ g r s _ refl).0);
      same = (
        gathered_good _ _ _ _ _ _ _ _ g r s _ refl _ e,
        gathered_same _ _ _ _ _ _ _ _ g r s _ refl _ e,
        gathered _ _ _ _ _ _ _ _ g r s _ refl _ e,
      );
    }
