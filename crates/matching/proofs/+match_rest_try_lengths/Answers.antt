use Rattle.matching.proofs.Lengths.{trying_start, takes_all, trying_level, trying_ready, trying_found, trying_on, trying_over, trying_next, trying_barred, skipped_on}
use Rattle.foreseeing.proofs.Foreseen.{term_less}
use Rattle.matching.proofs.Going.{going_lost, going_ends, going_over, fresh-seek, going_stuck, going_on}
use Rattle.settling.proofs.Slots.{kept_self}
use Rattle.settling.proofs.Ends.{slotted_small}
use native.Mathlib.Omega.{arith}
use Rattle.matching.proofs.+match_rest_try_lengths.Goals as goal

pub match_rest-returns-in-Some : goal.match_rest-returns-in-Some
match_rest-returns-in-Some t c =
    let f = rw c.in-Some.is at c.fresh_e.ensures in
    going_ends c.loop-here.invariant (rw (fresh-seek c.loop-here.invariant c.item_at-item.ensures f.0 f.1) c.try_lengths.ensures)

pub match_rest-settle-settled-requires : goal.match_rest-settle-settled-requires
match_rest-settle-settled-requires t c =
    record { long = c.loop-here.invariant.ready.table.long; high = slotted_small c.item_at-item.ensures.slotted }

pub match_rest-loop-here-preserved : goal.match_rest-loop-here-preserved
match_rest-loop-here-preserved t c =
    going_on c.loop-here.invariant c.item_at-item.ensures _ (rw c.in-Some-only_end.is at c.only_end.ensures) c.settle-settled.ensures

pub match_rest-returns-in_default-only_end : goal.match_rest-returns-in_default-only_end
match_rest-returns-in_default-only_end t c =
    going_lost c.loop-here.invariant
    (going_stuck c.loop-here.invariant c.item_at-item.ensures (rw c.in_default-only_end.is at c.only_end.ensures).ways)
    (kept_self _ _)

pub match_rest-returns : goal.match_rest-returns
match_rest-returns t c = going_over c.loop-here.invariant (omega arith)

pub try_lengths-returns-then-j-left : goal.try_lengths-returns-then-j-left
try_lengths-returns-then-j-left t c = takes_all c.requires.0 c.requires.1 c.if-j-left.true c.settle.ensures

pub try_lengths-loop-end-init : goal.try_lengths-loop-end-init
try_lengths-loop-end-init t c = trying_start c.requires.0 c.requires.1

pub try_lengths-returns : goal.try_lengths-returns
try_lengths-returns t c =
    trying_barred c.loop-end.invariant c.foresee-w.ensures (rw c.in_default.is at c.next_end.ensures)

pub try_lengths-match_rest-requires : goal.try_lengths-match_rest-requires
try_lengths-match_rest-requires t c =
    (omega arith, trying_ready (trying_next c.loop-end.invariant c.foresee-w.ensures (rw c.in-Some.is at c.next_end.ensures)) c.settle-known.ensures)

pub try_lengths-returns-then-match_rest : goal.try_lengths-returns-then-match_rest
try_lengths-returns-then-match_rest t c =
    trying_found (trying_next c.loop-end.invariant c.foresee-w.ensures (rw c.in-Some.is at c.next_end.ensures)) c.settle-known.ensures
    (rw c.if-match_rest.true at c.match_rest.ensures)

pub try_lengths-term_end-requires : goal.try_lengths-term_end-requires
try_lengths-term_end-requires t c =
    trying_level (trying_next c.loop-end.invariant c.foresee-w.ensures (rw c.in-Some.is at c.next_end.ensures))

pub try_lengths-loop-end-smaller : goal.try_lengths-loop-end-smaller
try_lengths-loop-end-smaller t c =
    omega (arith, skipped_on (rw c.in-Some.is at c.next_end.ensures), term_less (rw c.in-Some-term_end.is at c.term_end.ensures))

pub try_lengths-loop-end-preserved : goal.try_lengths-loop-end-preserved
try_lengths-loop-end-preserved t c =
    trying_on (trying_next c.loop-end.invariant c.foresee-w.ensures (rw c.in-Some.is at c.next_end.ensures)) c.settle-known.ensures _
    (rw c.if-match_rest.false at c.match_rest.ensures) (rw c.in-Some-term_end.is at c.term_end.ensures)

pub try_lengths-returns-in_default-term_end : goal.try_lengths-returns-in_default-term_end
try_lengths-returns-in_default-term_end t c =
    trying_over (trying_next c.loop-end.invariant c.foresee-w.ensures (rw c.in-Some.is at c.next_end.ensures)) c.settle-known.ensures
    (rw c.if-match_rest.false at c.match_rest.ensures) (rw c.in_default-term_end.is at c.term_end.ensures)
