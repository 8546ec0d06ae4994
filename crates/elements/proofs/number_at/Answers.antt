use Rattle.elements.proofs.Digits.{one_byte, two_bytes, digits_one, digits_two, digits_more, bytes_more}
use Rattle.elements.specs.Bytes.{digits}
use native.Mathlib.Omega.{arith}
use mathlib.Core.Path.{◌≡◌, refl, sym, ◌∙◌}
use lib.ListN.{get_or}
use Prim.Native.Nat.{◌+◌, ◌*◌}
use Rattle.elements.proofs.number_at.Goals as goal

pub returns-in-0 : goal.returns-in-0
unfolding digits
returns-in-0 c = rw c.in-0.is (refl, omega arith)

pub returns-in-1 : goal.returns-in-1
returns-in-1 c =
    let d = sym (one_byte c.args.s.now c.args.at (omega arith)) in
    let b = c.type_inv.s c.args.at in
    rw (c.in-1.is, c.from.ensures) (digits_one _ (omega arith) ∙ d, omega arith)

pub returns-in-2 : goal.returns-in-2
returns-in-2 c =
    let a = c.type_inv.s c.args.at in
    let b = c.type_inv.s (c.args.at + 1) in
    let e : c.from-in-2.result ≡ get_or c.args.s.now c.args.at 0 + get_or c.args.s.now (c.args.at + 1) 0 * 256 =
    c.from-in-2.ensures ∙ c.from_le_bytes.ensures in
    rw (c.in-2.is, e) (digits_two _ _ (omega arith) (omega arith) ∙ sym (two_bytes c.args.s.now c.args.at (omega arith)), omega arith)

pub returns-in_default : goal.returns-in_default
returns-in_default c =
    let w : c.args.width ≡ 4 = omega arith in
    let a = c.type_inv.s c.args.at in
    let b = c.type_inv.s (c.args.at + 1) in
    let d = c.type_inv.s (c.args.at + 2) in
    let f = c.type_inv.s (c.args.at + 2 + 1) in
    let e : c.from_le_bytes-in_default.result ≡ get_or c.args.s.now c.args.at 0 + get_or c.args.s.now (c.args.at + 1) 0 * 256
    + (get_or c.args.s.now (c.args.at + 2) 0 + get_or c.args.s.now (c.args.at + 2 + 1) 0 * 256) * 65536 =
    (let z : c.args.at + 2 + 1 ≡ c.args.at + 3 = omega arith in rw z (omega (arith, c.from_le_bytes-in_default.ensures))) in
    rw (w, e) (
      digits_more 2 _ _ (omega arith) ∙ rw (
        digits_two _ _ (omega arith) (omega arith) ∙ sym (two_bytes c.args.s.now c.args.at (omega arith)),
        digits_two _ _ (omega arith) (omega arith) ∙ sym (two_bytes c.args.s.now (c.args.at + 2) (omega arith)),
      ) (sym (bytes_more c.args.s.now c.args.at 2)),
      omega arith,
    )
