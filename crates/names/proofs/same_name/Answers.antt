use mathlib.Core.Path.{◌≡◌, ap, ◌∙◌}
use Prim.Native.Nat.{◌+◌, ◌-◌}
use lib.ListN.{length}
use native.Mathlib.Omega.{arith}
use Rattle.names.proofs.Spelling.{alike, tail_of_lem, alike_no, alike_yes, alike_on, alike_out, first_differs, by_tails}
use Rattle.names.proofs.same_name.Goals as goal

pub returns-then-text-a : goal.returns-then-text-a
returns-then-text-a c = first_differs _ _ _ c.requires.0 c.requires.1 c.if-text-a.true

pub loop-i-init : goal.loop-i-init
loop-i-init c = ap (alike c.args.text.now (c.args.a + 1)) (omega arith)

pub returns-then-x-spelled : goal.returns-then-x-spelled
returns-then-x-spelled c =
    by_tails _ _ _ c.requires.0 c.requires.1 c.if-text-a.false
    (alike_no c.args.text.now _ _ (tail_of_lem _ _ c.spelled-x.ensures) (tail_of_lem _ _ c.spelled.ensures) c.if-x-spelled.true
    ∙ c.loop-i.invariant)

pub returns-then-x-eq0 : goal.returns-then-x-eq0
returns-then-x-eq0 c =
    by_tails _ _ _ c.requires.0 c.requires.1 c.if-text-a.false
    (alike_yes c.args.text.now _ _ (tail_of_lem _ _ c.spelled-x.ensures) (tail_of_lem _ _ c.spelled.ensures) c.if-x-spelled.false
    c.if-x-eq0.true ∙ c.loop-i.invariant)

pub loop-i-preserved : goal.loop-i-preserved
loop-i-preserved c =
    let j : c.loop-i.i + 1 + c.args.b - c.args.a ≡ c.loop-i.i + c.args.b - c.args.a + 1 = omega arith in
    ap (alike c.args.text.now (c.loop-i.i + 1)) j
    ∙ alike_on c.args.text.now _ _ (tail_of_lem _ _ c.spelled-x.ensures) (tail_of_lem _ _ c.spelled.ensures) c.if-x-spelled.false c.if-x-eq0.false
    ∙ c.loop-i.invariant

pub returns : goal.returns
returns c =
    let i : length c.args.text.now ≡ c.loop-i.i = omega arith in
    by_tails _ _ _ c.requires.0 c.requires.1 c.if-text-a.false
    (alike_out c.args.text.now _ _ c.loop-i-test.false (tail_of_lem _ _ (rw i at c.spelled-2.ensures)) ∙ c.loop-i.invariant)
