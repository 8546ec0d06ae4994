use mathlib.Core.Path.{◌∙◌}
use native.Mathlib.Omega.{arith}
use Rattle.names.proofs.Spelling.{tail_of_lem, hash_start, hash_end, hash_on, hash_out}
use Rattle.names.proofs.bucket_of.Goals as goal

pub overflow_cast-h : goal.overflow_cast-h
overflow_cast-h c = omega (arith, c.type_inv.text c.args.at)

pub loop-i-init : goal.loop-i-init
loop-i-init c = (hash_start _ _ c.requires, omega (arith, c.type_inv.text c.args.at))

pub returns-then-x-eq0 : goal.returns-then-x-eq0
returns-then-x-eq0 c =
    (hash_end c.args.text.now _ _ (tail_of_lem _ _ c.spelling_of-x.ensures) c.if-x-eq0.true ∙ c.loop-i.invariant.0, c.loop-i.invariant.1)

pub mix-h-requires : goal.mix-h-requires
mix-h-requires c = c.loop-i.invariant.1

pub loop-i-preserved : goal.loop-i-preserved
loop-i-preserved c = (
  rw c.mix-h.ensures.0
      (hash_on c.args.text.now _ _ (tail_of_lem _ _ c.spelling_of-x.ensures) c.if-x-eq0.false ∙ c.loop-i.invariant.0),
  c.mix-h.ensures.1,
)

pub returns : goal.returns
returns c = (hash_out _ _ _ c.loop-i-test.false ∙ c.loop-i.invariant.0, c.loop-i.invariant.1)
