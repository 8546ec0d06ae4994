use mathlib.Core.Path.{◌≡◌}
use Prim.Native.Nat.{◌≤◌, ◌<◌}
use native.Mathlib.Omega.{arith}
use lib.Dec.{leb}
use lib.ListN.{length}
use borrow.Author.Tests.{leb-true, leb-false}
use Rattle.meaning.proofs.Truth.{is_true, is_false, see}
use Rattle.classes.specs.declared.Class.TheVariants.{Digit}
use Rattle.classes.proofs.Order.{ne_true, ne_false}
use Rattle.text.specs.Classes.{is_digit}
use Rattle.classes.proofs.Runs.{run_out}
use Rattle.tokens.proofs.Digits.{begins, stops, turned, out}
use Rattle.tokens.proofs.sum_up.Goals as goal

pub loop-i-init : goal.loop-i-init
loop-i-init c = begins _ _

pub returns-then-ne : goal.returns-then-ne
returns-then-ne c = stops _ _ _ _ c.loop-i.invariant c.loop-i-test.true _ c.class_of.ensures (ne_true _ Digit c.ne.ensures c.if-ne.true)

pub loop-i-preserved : goal.loop-i-preserved
loop-i-preserved c =
    turned _ _ _ _ c.loop-i.invariant c.loop-i-test.true _ c.class_of.ensures (ne_false _ Digit c.ne.ensures c.if-ne.false) _ c.add_digit-value.ensures

pub returns : goal.returns
returns c =
    elim (see (leb (length c.args.s.now) c.args.at)) [
      | is_true h ↦
          let l : length c.args.s.now ≤ c.args.at = leb-true _ _ h in
          let e : c.max.result ≡ c.args.at = omega arith in
          rw e (record { ends = run_out is_digit _ _ l; sums = (out _ _ _ _ c.loop-i.invariant c.loop-i-test.false).sums })
      | is_false h ↦
          let l : c.args.at < length c.args.s.now = leb-false _ _ h in
          let e : c.max.result ≡ c.loop-i.i = omega arith in
          rw e (out _ _ _ _ c.loop-i.invariant c.loop-i-test.false)
    ]
