use Rattle.elements.proofs.Values.{bytes_inside, bytes_told, bytes_shared, bytes_apart, bytes_short}
use native.Mathlib.Omega.{arith}
use Rattle.elements.proofs.shared_bytes.Goals.{else-end-b-via-then-end-b+else-eq, else-end-b-via-else-end-b}
use Rattle.elements.proofs.shared_bytes.Goals as goal

pub slice_bounds-eq-end : goal.slice_bounds-eq-end
slice_bounds-eq-end c = bytes_inside c.args.a.now c.args.b.now c.args.at c.args.end c.requires.0 c.requires.1

pub returns-then-eq : goal.returns-then-eq
returns-then-eq c =
    bytes_shared c.args.a.now c.args.b.now c.args.at c.args.end c.requires.0 c.requires.1 (bytes_told _ _ c.if-eq.ensures)

pub returns-else-end-b : goal.returns-else-end-b
returns-else-end-b c =
    elim c.else-end-b.branch [
      | else-end-b-via-then-end-b+else-eq w ↦
          bytes_apart c.args.a.now c.args.b.now c.args.at c.args.end c.requires.0 c.requires.1 (bytes_told _ _ w.if-eq.ensures)
      | else-end-b-via-else-end-b w ↦ bytes_short c.args.a.now c.args.b.now c.args.at c.args.end c.requires.0 c.requires.1 (omega (arith, w.if-end-b.false))
    ]
