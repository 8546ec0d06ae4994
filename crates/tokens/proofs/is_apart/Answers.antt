use mathlib.Core.Path.{◌∙◌}
use native.Mathlib.Omega.{arith}
use Rattle.meaning.proofs.Truth.{is_true, is_false, see}
use Rattle.classes.specs.declared.Class.TheVariants.{Capital, Typed, Dash}
use Rattle.classes.proofs.Order.{low, high, eq_true, eq_false}
use Rattle.tokens.proofs.Lexing.{apart_out, apart_yes, apart_no}
use Rattle.tokens.proofs.is_apart.Goals as goal
use Rattle.tokens.proofs.is_apart.Goals.{then-eq-via-then-eq, then-eq-via-else-eq+then-lt}

pub returns-then-s-at : goal.returns-then-s-at
returns-then-s-at c = apart_out _ _ 0 c.if-s-at.true

pub returns-then-eq : goal.returns-then-eq
returns-then-eq c =
    let class = c.class_of-class.result in
    let apart = apart_yes _ _ _ c.if-s-at.false c.class_of-class.ensures in
    elim c.then-eq.branch [
      | then-eq-via-then-eq w ↦ apart (λ p q. eq_true class Typed c.eq.ensures w.if-eq.true)
      | then-eq-via-else-eq+then-lt w ↦ apart (λ p q. omega (arith, p, low class Capital w.lt.ensures w.if-lt.true))
    ]

pub returns : goal.returns
returns c =
    let class = c.class_of-class.result in
    elim (see c.lt-2.result) [
      | is_true h ↦ h ∙ apart_yes _ _ _ c.if-s-at.false c.class_of-class.ensures (λ p q. omega (arith, q, low Dash class c.lt-2.ensures h))
      | is_false h ↦
          let letter = high class Capital c.lt.ensures c.if-lt.false in
          let named = high Dash class c.lt-2.ensures h in
          h ∙ apart_no _ _ _ c.if-s-at.false c.class_of-class.ensures letter named (eq_false class Typed c.eq.ensures c.if-eq.false)
    ]
