use native.Mathlib.Omega.{arith}
use Rattle.scanning.proofs.Scan.{may_read, from_notes, none_left, read_on, none_some, some_none, found_at}
use mathlib.Core.Path.{refl, sym}
use borrow.Author.Tests.{ltb-false}
use Rattle.scanning.proofs.Spread.next_mark.Goals as goal

pub returns-in-Some : goal.returns-in-Some
returns-in-Some c =
    let (room, is) = c.in-Some.ensures.lookup.3 in
    (refl, refl, refl, record { yes = found_at _ (from_notes _ _ _ _ _ _ _ c.requires.good c.requires.standing _ (is 0) room); no = λ z. some_none z })

pub next_bracket-requires : goal.next_bracket-requires
next_bracket-requires c =
    let (within, whole) = may_read _ _ _ _ _ _ _ c.requires.good c.requires.standing in
    record { at_in_bounds = within; whole = whole }

pub returns-in_default-next_bracket : goal.returns-in_default-next_bracket
returns-in_default-next_bracket c = (
  refl,
  refl,
  refl,
  record {
    yes = λ k z. none_some z;
    no = λ _. none_left _ _ _ _ _ _ _ c.requires.good c.requires.standing (ltb-false _ _ (sym c.in_default.ensures.lookup.0)) _ (rw c.in_default-next_bracket.is at c.next_bracket.ensures)
        refl;
  },
)

pub pass-passed-requires : goal.pass-passed-requires
pass-passed-requires c = (rw c.in-Some-next_bracket.is at c.next_bracket.ensures).1

pub returns : goal.returns
returns c =
    let at = rw c.in-Some-next_bracket.is at c.next_bracket.ensures in (
      refl,
      refl,
      refl,
      record {
        yes = found_at _ (read_on _ _ _ _ _ _ _ c.requires.good c.requires.standing (ltb-false _ _ (sym c.in_default.ensures.lookup.0)) _ at.0 (λ e. omega (arith, e, at.1))
            c.requires.notes _ c.pass-passed.ensures.next_is);
        no = λ z. some_none z;
      },
    )
