use mathlib.Core.Path.{◌≡◌, refl}
use Prim.Native.Nat.{◌+◌, ◌-◌}
use native.Mathlib.Omega.{arith}
use lib.ListN.{length-set}
use Rattle.names.proofs.Spelling.{tail_of_lem}
use Rattle.names.proofs.Writing.{owes_room, owes_more, owes_end, owes_out}
use Rattle.names.proofs.write_tail.Goals as goal

pub loop-i-init : goal.loop-i-init
loop-i-init c =
    let j : c.args.start + c.args.from - c.args.from ≡ c.args.start = omega arith in
    (rw j (record { is = refl; room = c.requires }), refl)

pub returns-then-x-eq0 : goal.returns-then-x-eq0
returns-then-x-eq0 c =
    owes_end c.args.text.now _ c.loop-i.invariant.0 (tail_of_lem _ _ c.spelling_of-x.ensures) c.if-x-eq0.true

pub bounds-list-start : goal.bounds-list-start
bounds-list-start c =
    owes_room c.args.text.now _ c.loop-i.invariant.0 (tail_of_lem _ _ c.spelling_of-x.ensures) c.if-x-eq0.false

pub loop-i-preserved : goal.loop-i-preserved
loop-i-preserved c =
    let j : c.args.start + (c.loop-i.i + 1) - c.args.from ≡ c.args.start + c.loop-i.i - c.args.from + 1 = omega arith in
    (rw j (owes_more c.args.text.now _ c.loop-i.invariant.0 (tail_of_lem _ _ c.spelling_of-x.ensures) c.if-x-eq0.false), simp length-set c.loop-i.invariant.1)

pub returns : goal.returns
returns c = owes_out _ _ c.loop-i.invariant.0 c.loop-i-test.false
