use mathlib.Core.Path.{refl, ◌∙◌}
use native.Mathlib.Omega.{arith}
use Rattle.variables.proofs.Parts.{sizes_differ, alike_none, alike_no, alike_on}
use Rattle.variables.proofs.same_part.Goals as goal

pub returns-then-n-b : goal.returns-then-n-b
returns-then-n-b c = sizes_differ _ _ c.if-n-b.true

pub loop-k-init : goal.loop-k-init
loop-k-init c = refl

pub returns-then-x-y : goal.returns-then-x-y
returns-then-x-y c =
    alike_no c.args.a.now c.args.b.now _ c.if-n-b.false (omega arith) c.spelling_of-x.ensures c.spelling_of-y.ensures c.if-x-y.true
    ∙ c.loop-k.invariant

pub loop-k-preserved : goal.loop-k-preserved
loop-k-preserved c =
    alike_on c.args.a.now c.args.b.now _ c.if-n-b.false (omega arith) c.spelling_of-x.ensures c.spelling_of-y.ensures c.if-x-y.false
    ∙ c.loop-k.invariant

pub returns : goal.returns
returns c = alike_none c.args.a.now c.args.b.now _ (omega arith) c.if-n-b.false ∙ c.loop-k.invariant
