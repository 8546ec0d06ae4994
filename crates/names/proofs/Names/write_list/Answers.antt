use native.Mathlib.Omega.{arith}
use Rattle.names.proofs.Writing.{written_none, written_more, written_all, cleared_long, key_short}
use Rattle.names.proofs.Entries.{first_at}
use Rattle.names.proofs.Names.write_list.Goals as goal

pub loop-k-init : goal.loop-k-init
loop-k-init c = written_none c.args.list.now c.clear.ensures _ _

pub write_key-requires : goal.write_key-requires
write_key-requires c =
    let q = c.args.self.now in
    rw (← first_at q.entries c.loop-k.k) (
      q.index.places.inside _ c.loop-k-test.true,
      omega (arith, key_short q.index.places _ c.loop-k-test.true, c.loop-k.invariant.long, cleared_long c.args.list.now c.clear.ensures),
    )

pub loop-k-preserved : goal.loop-k-preserved
loop-k-preserved c =
    let q = c.args.self.now in
    written_more q.index.places (omega (arith, cleared_long c.args.list.now c.clear.ensures)) _ c.loop-k-test.true c.loop-k.invariant
    (rw (first_at q.entries c.loop-k.k) c.write_key.ensures)

pub returns : goal.returns
returns c =
    written_all c.args.list.now _ c.loop-k.invariant c.loop-k-test.false (omega arith)
    (cleared_long c.args.list.now c.clear.ensures)
