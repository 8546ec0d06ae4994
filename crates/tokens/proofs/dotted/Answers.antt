use mathlib.Core.Path.{sym, ◌∙◌}
use Prim.Native.Nat.{◌+◌, ◌<◌}
use lib.ListN.{length, drop}
use Rattle.text.specs.Classes.{front, in_name}
use Rattle.tokens.proofs.Lexing.{by_span, tells, tells_wrong, run_first, dot_none, dot_number, dot_long, dot_letter, dot_other}
use native.Mathlib.Omega.{arith}
use Rattle.classes.proofs.Runs.{run_most}
use Rattle.tokens.proofs.dotted.Goals as goal

pub returns-then-end-start : goal.returns-then-end-start
returns-then-end-start c = tells_wrong c.spanning-malformed.ensures (dot_none _ _ _ c.run_end-end.ensures c.if-end-start.true)

pub past_zeros-first-requires : goal.past_zeros-first-requires
past_zeros-first-requires c =
    let e = c.run_end-end.ensures in (
      omega (arith, e, c.if-end-start.false),
      omega (arith, e, run_most in_name c.args.s.now (c.args.at + 2) (omega arith)),
    )

pub returns-then-run_end-end : goal.returns-then-run_end-end
returns-then-run_end-end c =
    tells _ _ c.spanning.ensures
    (dot_number _ _ _ c.run_end-end.ensures c.if-end-start.false _ c.run_end.ensures c.if-run_end-end.true _ c.past_zeros-first.ensures (omega arith))

pub returns-then-start-end : goal.returns-then-start-end
returns-then-start-end c =
    tells_wrong c.spanning-malformed.ensures
    (dot_long _ _ _ c.run_end-end.ensures c.if-end-start.false _ c.run_end.ensures c.if-run_end-end.false c.if-start-end.true)

pub bounds-s-start : goal.bounds-s-start
bounds-s-start c =
    let e = c.run_end-end.ensures in
    let long : 0 < length (front in_name (drop (c.args.at + 2) c.args.s.now)) = omega (arith, e, c.if-end-start.false) in
    (run_first in_name c.args.s.now (c.args.at + 2) long).0

pub returns-then-is_letter : goal.returns-then-is_letter
returns-then-is_letter c =
    tells _ _ c.spanning-then-is_letter.ensures
    (dot_letter _ _ _ c.run_end-end.ensures c.if-end-start.false _ c.run_end.ensures c.if-run_end-end.false c.if-start-end.false
    (by_span 3 5 _ _ c.class_of.ensures ∙ sym c.is_letter.ensures ∙ c.if-is_letter.true) (omega arith))

pub returns : goal.returns
returns c =
    tells_wrong c.spanning-malformed.ensures
    (dot_other _ _ _ c.run_end-end.ensures c.if-end-start.false _ c.run_end.ensures c.if-run_end-end.false
    (by_span 3 5 _ _ c.class_of.ensures ∙ sym c.is_letter.ensures ∙ c.if-is_letter.false))
