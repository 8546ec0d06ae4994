use native.Mathlib.Omega.{arith}
use Rattle.classes.specs.declared.Class.TheVariants.{LineEnd}
use Rattle.classes.proofs.Order.{eq_true, eq_false}
use Rattle.tokens.proofs.Strings.{turn_doubled, turn_on, end_single, end_last, end_line, end_open}
use Rattle.tokens.proofs.quoted_from.Goals.{then-i-s-via-then-i-s, then-i-s-via-else-i-s+then-s-i, then-b-q+else-i-s+else-s-i, else-b-q+else-eq}
use Rattle.tokens.proofs.quoted_from.Goals as goal

pub returns-then-i-s : goal.returns-then-i-s
returns-then-i-s c =
    elim c.then-i-s.branch [
      | then-i-s-via-then-i-s w ↦ end_last _ _ _ _ c.loop-i.invariant c.loop-i-test.true c.if-b-q.true (omega (arith, w.if-i-s.true))
      | then-i-s-via-else-i-s+then-s-i w ↦
          end_single _ _ _ _ c.loop-i.invariant c.loop-i-test.true c.if-b-q.true (omega (arith, w.if-i-s.false, c.loop-i-test.true)) w.if-s-i.true
    ]

pub returns-then-eq : goal.returns-then-eq
returns-then-eq c =
    end_line _ _ _ _ c.loop-i.invariant c.loop-i-test.true c.if-b-q.false _ c.class_of.ensures (eq_true _ LineEnd c.eq.ensures c.if-eq.true)

pub loop-i-preserved : goal.loop-i-preserved
loop-i-preserved c =
    elim c.if-b-q.branch [
      | then-b-q+else-i-s+else-s-i w ↦
          rw w.i-is
          (turn_doubled _ _ _ _ c.loop-i.invariant c.loop-i-test.true w.if-b-q.true (omega (arith, w.if-i-s.false, c.loop-i-test.true)) w.if-s-i.false)
      | else-b-q+else-eq w ↦
          rw w.i-is
          (turn_on _ _ _ _ c.loop-i.invariant c.loop-i-test.true w.if-b-q.false _ w.class_of.ensures (eq_false _ LineEnd w.eq.ensures w.if-eq.false))
    ]

pub returns : goal.returns
returns c = end_open _ _ _ _ c.loop-i.invariant c.loop-i-test.false
