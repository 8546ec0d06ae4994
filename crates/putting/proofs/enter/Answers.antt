use mathlib.Core.Path.{refl, ◌∙◌, sym}
use Rattle.putting.proofs.Making.{onward_as, enter_inside, enter_open, enter_shut, enter-part, enter_between, enter_header, fits_two}
use Rattle.putting.proofs.enter.Goals as goal

pub returns-in-Inside : goal.returns-in-Inside
returns-in-Inside c = onward_as (enter_inside _ _ c.in-Inside.is) c.put_within.ensures

pub returns-else-not-is_sign : goal.returns-else-not-is_sign
returns-else-not-is_sign c =
    enter_open _ _ c.in-Named.is (sym (c.is_sign.ensures _ _ refl) ∙ c.if-not-is_sign.false)

pub returns-then-not-is_sign : goal.returns-then-not-is_sign
returns-then-not-is_sign c =
    enter_shut _ _ c.in-Named.is (sym (c.is_sign.ensures _ _ refl) ∙ c.if-not-is_sign.true)

pub returns-then-is_sign : goal.returns-then-is_sign
returns-then-is_sign c =
    enter-part _ _ c.in-Between.is (sym (c.is_sign-in-Between.ensures _ _ refl) ∙ c.if-is_sign.true)

pub put_header-requires : goal.put_header-requires
put_header-requires c = (c.requires.0, fits_two c.requires.2)

pub returns-else-is_sign : goal.returns-else-is_sign
returns-else-is_sign c =
    onward_as (enter_between _ _ c.in-Between.is (sym (c.is_sign-in-Between.ensures _ _ refl) ∙ c.if-is_sign.false)) (c.put_header.ensures _ _)

pub put_header-requires-in_default : goal.put_header-requires-in_default
put_header-requires-in_default c = (c.requires.0, fits_two c.requires.2)

pub returns-in_default : goal.returns-in_default
returns-in_default c =
    onward_as (enter_header _ _ c.in_default.not-Inside c.in_default.not-Named c.in_default.not-Between) (c.put_header-in_default.ensures _ _)
