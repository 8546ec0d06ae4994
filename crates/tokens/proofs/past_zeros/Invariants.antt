use mathlib.Core.Path.{◌≡◌}
use Prim.Native.Nat.{◌-◌}
use lib.ListN.{take, drop}
use Rattle.text.specs.Tokens.{trim}
use Rattle.tokens.proofs.past_zeros.Given as goal

abbrev pub invariant-loop-i : goal.invariant-loop-i
invariant-loop-i l = trim (take (l.end - l.i) (drop l.i l.s)) ≡ trim (take (l.end - l.start) (drop l.start l.s))
