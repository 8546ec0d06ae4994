use mathlib.Core.Path.{refl, sym, ◌∙◌}
use mathlib.Core.List.{◌∷◌, []}
use native.Mathlib.Omega.{arith}
use Rattle.building.proofs.Sides.{var_range, slot}
use Rattle.building.proofs.Spans.{span_fixed, span_var}
use Rattle.building.proofs.span_of.Goals as goal

pub returns-then-not-is_variable : goal.returns-then-not-is_variable
returns-then-not-is_variable c =
    span_fixed _ _ _ _ _ c.requires.known _ refl (sym c.is_variable.ensures ∙ c.if-not-is_variable.true)

pub slot-slot-requires : goal.slot-slot-requires
slot-slot-requires c =
    let k = c.requires.known in
    let v = (sym c.is_variable.ensures ∙ c.if-not-is_variable.false) in
    let r = var_range (_ ∷ []) v in
    let l = (slot _ _ _ _ _ k _ _ refl v refl).low in
    (r.0, r.1, omega arith)

pub overflow_sub-result : goal.overflow_sub-result
overflow_sub-result c =
    let k = c.requires.known in
    let v = (sym c.is_variable.ensures ∙ c.if-not-is_variable.false) in
    rw c.slot-slot.ensures.0 (slot _ _ _ _ _ k _ _ refl v refl).up

pub returns : goal.returns
returns c =
    let k = c.requires.known in
    let v = (sym c.is_variable.ensures ∙ c.if-not-is_variable.false) in
    rw c.slot-slot.ensures.0 (span_var _ _ _ _ _ k _ _ refl v refl)
