use native.Mathlib.Omega.{arith}
use Rattle.elements.proofs.Values.{compare_character}
use Rattle.elements.proofs.shared_characters.Goals as goal

pub loop-i-preserved : goal.loop-i-preserved
loop-i-preserved c =
    let k = compare_character _ _ _ c.loop-i.invariant.0 (omega arith) c.if-a-i-eq-CHARACTER.true (omega arith) c.if-a-i.true in
    (k, omega (arith, c.loop-i.invariant.1))
