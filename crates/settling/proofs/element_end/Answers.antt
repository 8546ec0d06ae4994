use Rattle.settling.proofs.Ends.{value_there, value_elsewhere, value_long}
use Rattle.elements.proofs.Values.{bytes_told, bytes_same}
use mathlib.Core.Path.{refl, ap}
use native.Mathlib.Omega.{arith}
use Rattle.meaning.specs.Elements.{elements}
use Rattle.settling.proofs.element_end.Goals.{else-end-arg-via-then-end-arg+else-eq, else-end-arg-via-else-end-arg}
use Rattle.settling.proofs.element_end.Goals as goal

pub returns-then-eq : goal.returns-then-eq
returns-then-eq c =
    value_there _ _ _ c.requires.0 c.requires.1 _ refl (omega arith) (ap elements (bytes_told _ _ c.if-eq.ensures))

pub returns-else-end-arg : goal.returns-else-end-arg
returns-else-end-arg c =
    elim c.else-end-arg.branch [
      | else-end-arg-via-then-end-arg+else-eq w ↦
          value_elsewhere _ _ _ c.requires.0 c.requires.1 _ refl (λ q. bytes_told _ _ w.if-eq.ensures (bytes_same _ _ q))
      | else-end-arg-via-else-end-arg w ↦ value_long _ _ _ c.requires.0 c.requires.1 (omega (arith, w.if-end-arg.false))
    ]
