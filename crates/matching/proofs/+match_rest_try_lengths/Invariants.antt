use Rattle.matching.proofs.Lengths.{Trying}
use Rattle.matching.proofs.Going.{Going}
use lib.ListN.{length}
use Prim.Native.Nat.{◌+◌, ◌-◌, ◌*◌}
use Rattle.matching.proofs.+match_rest_try_lengths.Given as goal

abbrev pub decreases-match_rest : goal.decreases-match_rest
decreases-match_rest l = (length l.left.now - l.i) * 2

abbrev pub decreases-try_lengths : goal.decreases-try_lengths
decreases-try_lengths l = (length l.left.now - l.j) * 2 + 1

abbrev pub invariant-match_rest-loop-here : goal.invariant-match_rest-loop-here
invariant-match_rest-loop-here l = Going l.left l.i l.arg l.at l.initial.binds l.initial.settled.bits l.here l.place l.binds l.settled.bits

abbrev pub decreases-match_rest-loop-here : goal.decreases-match_rest-loop-here
decreases-match_rest-loop-here l = length l.left - l.here

abbrev pub invariant-try_lengths-loop-end : goal.invariant-try_lengths-loop-end
invariant-try_lengths-loop-end l = Trying l.left l.j l.arg l.at l.initial.binds l.settled.bits l.slot l.from l.binds

abbrev pub decreases-try_lengths-loop-end : goal.decreases-try_lengths-loop-end
decreases-try_lengths-loop-end l = length l.arg - l.from
