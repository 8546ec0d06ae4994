use mathlib.Core.Path.{◌≡◌, sym, ◌∙◌}
use Prim.Native.Nat.{◌≤◌, ◌<◌}
use native.Mathlib.Omega.{arith}
use lib.Dec.{leb}
use lib.ListN.{length}
use borrow.Author.Tests.{leb-true, leb-false}
use Rattle.meaning.proofs.Truth.{is_true, is_false, see}
use Rattle.classes.proofs.Runs.{of_yes, of_low, of_high, run_on, run_stop, run_out}
use Rattle.classes.proofs.run_end.Goals as goal
use Rattle.classes.proofs.run_end.Goals.{then-k-lo-via-then-k-lo, then-k-lo-via-else-k-lo+then-hi-k}

pub returns-then-k-lo : goal.returns-then-k-lo
returns-then-k-lo c =
    let class = c.number-k.ensures ∙ c.class_of.ensures in
    rw (← c.number-lo.ensures, ← c.number-hi.ensures) (
    elim c.then-k-lo.branch [
      | then-k-lo-via-then-k-lo w ↦ run_stop _ _ _ c.loop-i-test.true (of_low _ _ _ _ class w.if-k-lo.true) ∙ c.loop-i.invariant
      | then-k-lo-via-else-k-lo+then-hi-k w ↦ run_stop _ _ _ c.loop-i-test.true (of_high _ _ _ _ class w.if-k-lo.false w.if-hi-k.true) ∙ c.loop-i.invariant
    ]
    )

pub loop-i-preserved : goal.loop-i-preserved
loop-i-preserved c =
    let class = c.number-k.ensures ∙ c.class_of.ensures in
    sym (run_on _ _ _ c.loop-i-test.true (of_yes _ _ _ _ class c.if-k-lo.false c.if-hi-k.false)) ∙ c.loop-i.invariant

pub returns : goal.returns
returns c =
    rw (← c.number-lo.ensures, ← c.number-hi.ensures) (
    elim (see (leb (length c.args.s.now) c.args.from)) [
      | is_true h ↦
          let l : length c.args.s.now ≤ c.args.from = leb-true _ _ h in
          let e : c.max.result ≡ c.args.from = omega arith in
          e ∙ run_out _ _ _ l
      | is_false h ↦
          let l : c.args.from < length c.args.s.now = leb-false _ _ h in
          let e : c.max.result ≡ c.loop-i.i = omega arith in
          e ∙ run_out _ _ _ c.loop-i-test.false ∙ c.loop-i.invariant
    ]
    )
