use mathlib.Core.Path.{refl, sym, ◌∙◌}
use mathlib.Core.List.{◌∷◌, []}
use native.Mathlib.Omega.{arith}
use Rattle.building.proofs.Sides.{plain_piece, var_range, slot}
use Rattle.building.proofs.Spans.{span_fixed, span_var}
use Rattle.building.proofs.put_element.Goals as goal

pub put_part-requires : goal.put_part-requires
put_part-requires c =
    let e = span_fixed _ _ _ _ _ c.requires.known _ refl (sym c.is_variable.ensures ∙ c.if-not-is_variable.true) in
    let z = c.requires.program_in_bounds in
    record { len_in_bounds = c.requires.known.within; len_in_bounds_2 = omega arith }

pub returns-then-not-is_variable : goal.returns-then-not-is_variable
returns-then-not-is_variable c =
    let k = c.requires.known in
    let n = (sym c.is_variable.ensures ∙ c.if-not-is_variable.true) in
    let u = c.put_part.ensures in
    (rw (← span_fixed _ _ _ _ _ k _ refl n) u.0, rw (plain_piece _ _ _ _ _ k _ refl n) u.1)

pub slot-slot-requires : goal.slot-slot-requires
slot-slot-requires c =
    let k = c.requires.known in
    let v = (sym c.is_variable.ensures ∙ c.if-not-is_variable.false) in
    let r = var_range (_ ∷ []) v in
    let l = (slot _ _ _ _ _ k _ _ refl v refl).low in
    (r.0, r.1, omega arith)

pub overflow_sub-binds : goal.overflow_sub-binds
overflow_sub-binds c =
    let k = c.requires.known in
    let v = (sym c.is_variable.ensures ∙ c.if-not-is_variable.false) in
    rw c.slot-slot.ensures.0 (slot _ _ _ _ _ k _ _ refl v refl).up

pub put_part-requires-2 : goal.put_part-requires-2
put_part-requires-2 c =
    let k = c.requires.known in
    let v = (sym c.is_variable.ensures ∙ c.if-not-is_variable.false) in
    let s = slot _ _ _ _ _ k _ _ refl v refl in
    let e = span_var _ _ _ _ _ k _ _ refl v refl in
    let z = c.requires.program_in_bounds in
    let u = s.up in
    let f = s.fits in
    let o = c.slot-slot.ensures.0 in
    record { len_in_bounds = rw o (omega arith); len_in_bounds_2 = rw o (omega arith) }

pub returns : goal.returns
returns c =
    let k = c.requires.known in
    let v = (sym c.is_variable.ensures ∙ c.if-not-is_variable.false) in
    let s = slot _ _ _ _ _ k _ _ refl v refl in
    let e = span_var _ _ _ _ _ k _ _ refl v refl in
    let u = rw c.slot-slot.ensures.0 at c.put_part-2.ensures in
    (rw (← e) u.0, rw s.is u.1)
