use native.Mathlib.Omega.{arith}
use Rattle.scanning.proofs.Scan.{may_move, open_same, open_more, open_good, open_standing}
use mathlib.Core.Path.{refl}
use Rattle.scanning.proofs.Spread.pass_call.Goals as goal

pub shift-requires : goal.shift-requires
shift-requires c =
    let (down, within) = may_move _ _ _ _ _ _ _ _ c.requires.good c.requires.reached.0 c.requires.reached.1 in
    record { n_in_bounds = within; n_in_bounds_2 = omega arith }

pub returns : goal.returns
returns c =
    let g = c.requires.good in
    let r = c.requires.reached.0 in
    let k = c.requires.reached.1 in
    let e = c.shift.ensures in (
      open_good _ _ _ _ _ _ _ _ g r k _ _ e refl,
      open_same _ _ _ _ _ _ _ _ g r k _ _ e refl,
      open_more _ _ _ _ _ _ _ _ g r k _ _ e refl,
      open_standing _ _ _ _ _ _ _ _ g r k _ _ e refl,
    )
