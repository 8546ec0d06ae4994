use mathlib.Core.Path.{sym, ◌∙◌}
use native.Mathlib.Omega.{arith}
use Rattle.choosing.proofs.Rest.{seek_in, seek_here, seek_next}
use Rattle.choosing.proofs.seek_kind.Goals as goal

pub kind_at-requires : goal.kind_at-requires
kind_at-requires c = seek_in c.loop-passed.invariant

pub pass-passed-requires : goal.pass-passed-requires
pass-passed-requires c = seek_in c.loop-passed.invariant

pub loop-passed-smaller : goal.loop-passed-smaller
loop-passed-smaller c =
    let n = c.pass-passed.ensures.next_is in
    omega (arith, seek_in c.loop-passed.invariant)

pub loop-passed-preserved : goal.loop-passed-preserved
loop-passed-preserved c =
    seek_next c.loop-passed.invariant (λ e. c.loop-passed-test.true (c.kind_at.ensures ∙ e)) _ c.pass-passed.ensures.next_is

pub returns : goal.returns
returns c = seek_here c.loop-passed.invariant (sym c.kind_at.ensures ∙ c.loop-passed-test.false)
