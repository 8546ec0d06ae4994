use mathlib.Core.Path.{◌≡◌, ◌∙◌}
use Prim.Native.Nat.{◌-◌}
use native.Mathlib.Omega.{arith}
use Rattle.tokens.proofs.Digits.{zero_on, zero_stop, zero_last}
use Rattle.tokens.proofs.past_zeros.Goals as goal

pub returns-then-s-i-ne48 : goal.returns-then-s-i-ne48
returns-then-s-i-ne48 c =
    record { least = omega arith; most = omega arith; same = zero_stop _ _ _ c.requires.1 (omega arith) c.if-s-i-ne48.true ∙ c.loop-i.invariant }

pub loop-i-preserved : goal.loop-i-preserved
loop-i-preserved c = zero_on _ _ _ c.requires.1 (omega arith) c.if-s-i-ne48.false ∙ c.loop-i.invariant

pub returns : goal.returns
returns c =
    let e : c.args.end - 1 ≡ c.loop-i.i = omega arith in
    rw e (record { least = omega arith; most = omega arith; same = zero_last _ _ _ c.requires.1 (omega arith) (omega arith) ∙ c.loop-i.invariant })
