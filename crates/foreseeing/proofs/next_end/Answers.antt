use Rattle.foreseeing.specs.Foresight.{at_once, term_more, ends_at, never_ends}
use Rattle.foreseeing.proofs.Foreseen.{barred_there, skipped_level, over_characters, term_less}
use Rattle.elements.proofs.Levels.{characters_on}
use native.Mathlib.Omega.{arith}
use Rattle.foreseeing.proofs.next_end.Goals as goal

pub loop-w-init : goal.loop-w-init
loop-w-init c = at_once

pub term_end-requires : goal.term_end-requires
term_end-requires c = skipped_level c.requires.0 c.loop-w.invariant

pub returns-in_err-next : goal.returns-in_err-next
returns-in_err-next c =
    rw c.from_residual.ensures
    (never_ends c.loop-w.invariant (barred_there (rw c.loop-w-test.true at c.can_end.ensures)) (rw c.in_err-next.was at c.term_end.ensures))

pub loop-w-smaller : goal.loop-w-smaller
loop-w-smaller c =
    omega (arith, term_less (rw c.in_ok-next.was at c.term_end.ensures), characters_on c.past_characters-i.ensures)

pub loop-w-preserved : goal.loop-w-preserved
loop-w-preserved c =
    let k = term_more c.loop-w.invariant (barred_there (rw c.loop-w-test.true at c.can_end.ensures)) (rw c.in_ok-next.was at c.term_end.ensures) in
    over_characters c.requires.1 c.stop_of-stop.ensures c.run_end.ensures (skipped_level c.requires.0 k) k c.past_characters-i.ensures

pub returns : goal.returns
returns c = ends_at c.loop-w.invariant
