use mathlib.Core.Path.{◌≡◌}
use Prim.Native.Nat.{◌+◌, ◌-◌}
use Rattle.names.proofs.Spelling.{alike}
use Rattle.names.proofs.same_name.Given as goal

abbrev pub invariant-loop-i : goal.invariant-loop-i
invariant-loop-i l = alike l.text l.i (l.i + l.b - l.a) ≡ alike l.text (l.a + 1) (l.b + 1)
