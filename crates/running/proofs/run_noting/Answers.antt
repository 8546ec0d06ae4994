use Prim.Native.Nat.{ℕ}
use native.Mathlib.Omega.{arith}
use lib.ListN.{length-replicate}
use Rattle.choosing.proofs.Table.{empty_cache}
use Rattle.running.proofs.Start.{ready}
use Rattle.running.proofs.Closing.{ended}
use Rattle.running.proofs.run_noting.Goals as goal

pub steps_from-halt-requires : goal.steps_from-halt-requires
steps_from-halt-requires g c =
    let ok = ready _ _ _ _ c.requires.checked in
    record { ready = ok; field_len_bound = omega (arith, length-replicate {A = ℕ} g.row.N 0, c.requires.notes.0); cache = empty_cache _ ok.program }

pub returns : goal.returns
returns g c =
    let shut = c.close-length.ensures in
    ended _ _ _ _ _ c.steps_from-halt.new.field c.steps_from-halt.new.scratch c.requires.checked c.steps_from-halt.ensures c.steps_from-halt.auto.field c.steps_from-halt.auto.scratch shut.0 shut.1
    (c.fill.ensures.after (λ y h. h))
