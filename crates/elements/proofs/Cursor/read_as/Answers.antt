use native.Mathlib.Omega.{arith}
use Rattle.kinds.proofs.Bodies.{body-not_three}
use Rattle.elements.proofs.Cursor.read_as.Goals as goal

pub number_at-requires : goal.number_at-requires
number_at-requires c =
    let w = c.length_of-length.ensures.0 in
    (omega arith, omega arith, λ e. body-not_three c.args.kind (omega (arith, w, e)))
