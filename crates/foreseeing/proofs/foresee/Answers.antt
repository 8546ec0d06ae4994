use Rattle.settling.proofs.Next.{item_placed, opening_next}
use Rattle.settling.proofs.Ends.{meant_proper}
use Rattle.foreseeing.proofs.Foreseen.{value_last, sound_between, sound_more, meant_stands, own_size, symbol_size, opens_there}
use Rattle.elements.proofs.Levels.{behind_terms}
use Rattle.meaning.proofs.Truth.{never}
use mathlib.Core.Bool.{true, false}
use mathlib.Core.Path.{refl}
use native.Mathlib.Omega.{arith}
use Rattle.foreseeing.proofs.foresee.Goals as goal

pub before_bracket-requires : goal.before_bracket-requires
before_bracket-requires c = ((opening_next c.requires.0 c.item_at-item.ensures c.if-left-j-eq-OPEN.true).1, c.requires.1.table)

pub returns-then-left-j-eq-OPEN : goal.returns-then-left-j-eq-OPEN
returns-then-left-j-eq-OPEN c =
    sound_more c.before_bracket.ensures
    (λ i y. opens_there c.requires.1.table c.requires.2 c.item_at-item.ensures y.through
    (opening_next c.requires.0 c.item_at-item.ensures c.if-left-j-eq-OPEN.true).0 y.split.fits)

pub before_value-requires : goal.before_value-requires
before_value-requires c =
    meant_proper (item_placed c.requires.0 c.item_at-item.ensures) c.requires.1.table (rw c.in-Some.is at c.meant.ensures)

pub returns-then-last : goal.returns-then-last
returns-then-last c =
    sound_more (value_last _ _ _ c.saturating_sub-only.ensures refl c.between.ensures)
    (λ i y. meant_stands c.requires.1.table c.requires.2 c.item_at-item.ensures y.through {last = true} (λ _. c.if-last.true)
    (rw c.in-Some.is at c.meant.ensures))

pub returns-in-Some : goal.returns-in-Some
returns-in-Some c =
    sound_more c.before_value.ensures
    (λ i y. meant_stands c.requires.1.table c.requires.2 c.item_at-item.ensures y.through {last = false} (λ h. never (cc)) (rw c.in-Some.is at c.meant.ensures))

pub returns-in-Some-slot : goal.returns-in-Some-slot
returns-in-Some-slot c =
    sound_between _ _ c.between-in-Some-slot.ensures (omega arith)
    (λ i h y. let z = own_size c.requires.1.table c.requires.2 c.item_at-item.ensures y.through y.split c.if-last-2.true (rw c.if-slot-own.true at c.in-Some-slot.is) in
    let l = y.split.on in (omega arith, omega arith))

pub returns-in-Some-2 : goal.returns-in-Some-2
returns-in-Some-2 c =
    sound_between _ _ c.between-in-Some-2.ensures (omega arith)
    (λ i h y. let z = symbol_size c.requires.1.table c.requires.2 c.item_at-item.ensures y.through
    (behind_terms y.through.terms (rw y.split.front at c.requires.1.argument)) c.if-last-3.true c.in-Some-2.is c.if-slot-lt-T_SLOTS.true
    in (omega arith, h))
