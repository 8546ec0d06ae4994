use Rattle.meaning.specs.Elements.{body}
use native.Mathlib.Omega.{arith}
use Rattle.choosing.proofs.Rest.{header_fits}
use Rattle.choosing.proofs.Table.{index_other, header_kept, header_new}
use Rattle.choosing.proofs.Index.read_one.Goals as goal
use Rattle.choosing.proofs.Index.read_one.Goals.{then-self-slot-eq0, else-self-slot-eq0}

pub returns-then-passed-ne-HEADER : goal.returns-then-passed-ne-HEADER
returns-then-passed-ne-HEADER c =
    let q = c.pass-passed.ensures in
    (index_other c.requires.0 c.requires.1 q c.if-passed-ne-HEADER.true, let n = q.next_is in omega arith)

pub read_as-header-requires : goal.read_as-header-requires
read_as-header-requires c =
    header_fits c.requires.1 c.requires.0.whole c.pass-passed.ensures c.if-passed-ne-HEADER.false

pub overflow_cast-self : goal.overflow_cast-self
unfolding body
overflow_cast-self c =
    let f = header_fits c.requires.1 c.requires.0.whole c.pass-passed.ensures c.if-passed-ne-HEADER.false in
    let b = c.requires.2 in
    omega arith

pub returns : goal.returns
returns c =
    let l = c.slot_of-slot.ensures.0 in
    let x = c.requires.0 in
    let q = c.pass-passed.ensures in (
      elim c.if-self-slot-eq0.branch [
        | then-self-slot-eq0 w ↦
            rw (w.self-is, l) (header_new x c.requires.1 q c.if-passed-ne-HEADER.false c.read_as-header.ensures (rw l at w.if-self-slot-eq0.true))
        | else-self-slot-eq0 w ↦
            rw w.self-is (header_kept x c.requires.1 q c.if-passed-ne-HEADER.false c.read_as-header.ensures (rw l at w.if-self-slot-eq0.false))
      ],
      let n = q.next_is in omega arith,
    )
