use mathlib.Core.Path.{◌≡◌, refl, ◌∙◌}
use Prim.Native.Nat.{◌+◌, ◌*◌, ◌<◌}
use native.Mathlib.Omega.{arith}
use lib.ListN.{get_or}
use Rattle.taking.proofs.Tests.{told}
use Rattle.putting.proofs.Characters.{no_quote, plain_more, runs_none, runs_from, lengths}
use Rattle.putting.proofs.put_run.Goals as goal

pub returns-then-not-between : goal.returns-then-not-between
returns-then-not-between c = (omega arith, runs_none c.args.reader c.args.buf.now c.requires)

pub overflow_sub-last : goal.overflow_sub-last
overflow_sub-last c = omega (arith, c.requires.most)

pub returns-then-n-eq0 : goal.returns-then-n-eq0
returns-then-n-eq0 c = (omega arith, runs_none c.args.reader c.args.buf.now c.requires)

pub loop-k-init : goal.loop-k-init
loop-k-init c = (runs_from c.args.reader c.args.buf.now c.requires, refl)

pub loop-k-preserved : goal.loop-k-preserved
loop-k-preserved c =
    let m : 0 < c.sure-n.result = omega (arith, c.if-n-eq0.false) in
    let space = c.sure-n.ensures.space m in
    let i = c.loop-k.invariant in
    let side = told c.between.ensures c.if-not-between.false in
    let (few, plain) = no_quote c.args.text.now c.args.from c.sure-n.result c.before_quote-n.result c.args.quote
    (omega (arith, c.sure-n.ensures.most, c.requires.inside, c.requires.most)) c.before_quote-n.ensures.0 c.before_quote-n.ensures.1 in
    let near : c.args.from + c.loop-k.k < c.args.last = omega (arith, c.loop-k-test.true, few, c.sure-n.ensures.most, c.requires.most) in (
      plain_more c.args.reader side c.limit_of.ensures c.loop-k.k i.0 near (plain c.loop-k.k c.loop-k-test.true)
          (omega (arith, c.type_inv.text (c.args.from + c.loop-k.k))) (omega (arith, c.loop-k-test.true, few, c.sure-n.ensures.side m))
          (omega (arith, c.loop-k-test.true, few, space, i.1)),
      lengths c.loop-k.buf (c.args.reader.len + 2 * c.loop-k.k) (get_or c.args.text.now (c.args.from + c.loop-k.k) 0) ∙ i.1,
    )

pub returns : goal.returns
returns c =
    let e : c.loop-k.k ≡ c.before_quote-n.result = omega (arith, c.loop-k-test.false, c.loop-k.auto.k-end) in
    (omega arith, rw (c.further.ensures, ← e) c.loop-k.invariant.0)
