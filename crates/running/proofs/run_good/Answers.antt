use native.Mathlib.Omega.{arith}
use Rattle.running.proofs.Start.{two_sizes}
use Rattle.running.proofs.run_good.Goals as goal

pub run_noting-requires-2 : goal.run_noting-requires-2
run_noting-requires-2 c =
    let l = (two_sizes _ _ _ _ c.requires.sizes_fit).1 in
    record { checked = c.requires; notes = (omega arith, omega arith) }
