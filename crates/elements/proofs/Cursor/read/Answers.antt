use mathlib.Core.Path.{refl, sym}
use native.Mathlib.Omega.{arith}
use lib.ListN.{get_or}
use Rattle.meaning.specs.Elements.{body}
use Rattle.elements.specs.Reading.{over, unknown}
use Rattle.elements.proofs.Places.{got_at, bare_at, cut_at, body_fits, no_kind}
use Rattle.elements.proofs.Cursor.read.Goals as goal

pub returns-then-s-at : goal.returns-then-s-at
returns-then-s-at c = over c.if-s-at.true

pub returns-then-s-at-2 : goal.returns-then-s-at-2
returns-then-s-at-2 c = cut_at c.if-s-at.false c.length_of.ensures.0 c.if-s-at-2.true

pub number_at-requires : goal.number_at-requires
unfolding body
number_at-requires c =
    (body_fits 1 (rw c.in-1.is) c.length_of.ensures.0 c.if-s-at-2.false c.if-s-at.false, omega arith, λ z. omega arith)

pub number_at-requires-in-2 : goal.number_at-requires-in-2
unfolding body
number_at-requires-in-2 c =
    (body_fits 2 (rw c.in-2.is) c.length_of.ensures.0 c.if-s-at-2.false c.if-s-at.false, omega arith, λ z. omega arith)

pub number_at-requires-in-3 : goal.number_at-requires-in-3
unfolding body
number_at-requires-in-3 c =
    (body_fits 4 (rw c.in-3.is) c.length_of.ensures.0 c.if-s-at-2.false c.if-s-at.false, omega arith, λ z. omega arith)

pub number_at-requires-in-6 : goal.number_at-requires-in-6
unfolding body
number_at-requires-in-6 c =
    (body_fits 2 (rw c.in-6.is) c.length_of.ensures.0 c.if-s-at-2.false c.if-s-at.false, omega arith, λ z. omega arith)

pub number_at-requires-in-8 : goal.number_at-requires-in-8
unfolding body
number_at-requires-in-8 c =
    (body_fits 1 (rw c.in-8.is) c.length_of.ensures.0 c.if-s-at-2.false c.if-s-at.false, omega arith, λ z. omega arith)

pub number_at-requires-in-9 : goal.number_at-requires-in-9
unfolding body
number_at-requires-in-9 c =
    (body_fits 1 (rw c.in-9.is) c.length_of.ensures.0 c.if-s-at-2.false c.if-s-at.false, omega arith, λ z. omega arith)

pub number_at-requires-in-10 : goal.number_at-requires-in-10
unfolding body
number_at-requires-in-10 c =
    (body_fits 1 (rw c.in-10.is) c.length_of.ensures.0 c.if-s-at-2.false c.if-s-at.false, omega arith, λ z. omega arith)

pub number_at-requires-in-13 : goal.number_at-requires-in-13
unfolding body
number_at-requires-in-13 c =
    (body_fits 2 (rw c.in-13.is) c.length_of.ensures.0 c.if-s-at-2.false c.if-s-at.false, omega arith, λ z. omega arith)

pub returns-in-1 : goal.returns-in-1
unfolding body
returns-in-1 c =
    got_at c.if-s-at.false c.length_of.ensures.0 c.if-s-at-2.false 1 _ (sym c.in-1.is)
    (rw c.in-1.is) c.number_at.ensures.0 c.number_at.ensures.1

pub returns-in-2 : goal.returns-in-2
unfolding body
returns-in-2 c =
    got_at c.if-s-at.false c.length_of.ensures.0 c.if-s-at-2.false 2 _ (sym c.in-2.is)
    (rw c.in-2.is) c.number_at-in-2.ensures.0 c.number_at-in-2.ensures.1

pub returns-in-3 : goal.returns-in-3
unfolding body
returns-in-3 c =
    got_at c.if-s-at.false c.length_of.ensures.0 c.if-s-at-2.false 4 _ (sym c.in-3.is)
    (rw c.in-3.is) c.number_at-in-3.ensures.0 c.number_at-in-3.ensures.1

pub returns-in-4 : goal.returns-in-4
unfolding body
returns-in-4 c = bare_at c.if-s-at.false c.length_of.ensures.0 c.if-s-at-2.false _ (sym c.in-4.is) (rw c.in-4.is) refl

pub returns-in-5 : goal.returns-in-5
unfolding body
returns-in-5 c = bare_at c.if-s-at.false c.length_of.ensures.0 c.if-s-at-2.false _ (sym c.in-5.is) (rw c.in-5.is) refl

pub returns-in-6 : goal.returns-in-6
unfolding body
returns-in-6 c =
    got_at c.if-s-at.false c.length_of.ensures.0 c.if-s-at-2.false 2 _ (sym c.in-6.is)
    (rw c.in-6.is) c.number_at-in-6.ensures.0 c.number_at-in-6.ensures.1

pub returns-in-7 : goal.returns-in-7
unfolding body
returns-in-7 c = bare_at c.if-s-at.false c.length_of.ensures.0 c.if-s-at-2.false _ (sym c.in-7.is) (rw c.in-7.is) refl

pub returns-in-8 : goal.returns-in-8
unfolding body
returns-in-8 c =
    got_at c.if-s-at.false c.length_of.ensures.0 c.if-s-at-2.false 1 _ (sym c.in-8.is)
    (rw c.in-8.is) c.number_at-in-8.ensures.0 c.number_at-in-8.ensures.1

pub returns-in-9 : goal.returns-in-9
unfolding body
returns-in-9 c =
    got_at c.if-s-at.false c.length_of.ensures.0 c.if-s-at-2.false 1 _ (sym c.in-9.is)
    (rw c.in-9.is) c.number_at-in-9.ensures.0 c.number_at-in-9.ensures.1

pub returns-in-10 : goal.returns-in-10
unfolding body
returns-in-10 c =
    got_at c.if-s-at.false c.length_of.ensures.0 c.if-s-at-2.false 1 _ (sym c.in-10.is)
    (rw c.in-10.is) c.number_at-in-10.ensures.0 c.number_at-in-10.ensures.1

pub returns-in-11 : goal.returns-in-11
unfolding body
returns-in-11 c =
    bare_at c.if-s-at.false c.length_of.ensures.0 c.if-s-at-2.false _ (sym c.in-11.is) (rw c.in-11.is) refl

pub returns-in-12 : goal.returns-in-12
unfolding body
returns-in-12 c =
    bare_at c.if-s-at.false c.length_of.ensures.0 c.if-s-at-2.false _ (sym c.in-12.is) (rw c.in-12.is) refl

pub returns-in-13 : goal.returns-in-13
unfolding body
returns-in-13 c =
    got_at c.if-s-at.false c.length_of.ensures.0 c.if-s-at-2.false 2 _ (sym c.in-13.is)
    (rw c.in-13.is) c.number_at-in-13.ensures.0 c.number_at-in-13.ensures.1

pub returns-in-14 : goal.returns-in-14
unfolding body
returns-in-14 c =
    bare_at c.if-s-at.false c.length_of.ensures.0 c.if-s-at-2.false _ (sym c.in-14.is) (rw c.in-14.is) refl

pub returns-in-15 : goal.returns-in-15
unfolding body
returns-in-15 c =
    bare_at c.if-s-at.false c.length_of.ensures.0 c.if-s-at-2.false _ (sym c.in-15.is) (rw c.in-15.is) refl

pub returns-in_default : goal.returns-in_default
returns-in_default c =
    unknown c.if-s-at.false (no_kind (get_or c.args.s.now c.args.self.at 0) c.in_default.in_default-own.rest)
