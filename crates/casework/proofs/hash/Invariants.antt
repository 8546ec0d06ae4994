use Rattle.std.proofs.Common.{◌≡◌, take}
use Rattle.casework.specs.Hash.{hash_of}
use Rattle.casework.proofs.hash.Given as goal

abbrev pub invariant-loop-b : goal.invariant-loop-b
invariant-loop-b l = l.h ≡ hash_of (take l.b-index l.s)
