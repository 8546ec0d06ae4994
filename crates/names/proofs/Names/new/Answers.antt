use native.Mathlib.Omega.{arith}
use Rattle.names.proofs.Chains.{index_none}
use Rattle.names.proofs.Names.new.Goals as goal

pub invariant_of-result : goal.invariant_of-result
invariant_of-result c = record { short = c.requires; index = index_none _ _ _ 8192 (omega arith) }
