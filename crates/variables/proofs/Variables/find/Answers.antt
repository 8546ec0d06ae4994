use mathlib.Core.Path.{sym, ◌∙◌}
use native.Mathlib.Omega.{arith}
use Rattle.variables.proofs.Entries.{kind_at, start_at, size_at}
use Rattle.variables.proofs.Parts.{index_is}
use Rattle.variables.proofs.Finding.{other_kind, other_index, this_one, none_is}
use Rattle.variables.proofs.Variables.find.Goals as goal

pub loop-j-preserved-then-entry-kind : goal.loop-j-preserved-then-entry-kind
loop-j-preserved-then-entry-kind c =
    let q = c.args.self.now in
    other_kind c.loop-j.invariant c.loop-j-test.true (λ e. c.if-entry-kind.true (sym (kind_at q.entries c.loop-j.j) ∙ e))

pub slice_bounds-index-end : goal.slice_bounds-index-end
slice_bounds-index-end c =
    let q = c.args.self.now in
    omega (arith, q.inside.each c.loop-j.j c.loop-j-test.true, start_at q.entries c.loop-j.j, size_at q.entries c.loop-j.j)

pub returns-then-same_part : goal.returns-then-same_part
returns-then-same_part c =
    let q = c.args.self.now in
    this_one c.loop-j.invariant c.loop-j-test.true (kind_at q.entries c.loop-j.j ∙ c.if-entry-kind.false)
    (rw (start_at q.entries c.loop-j.j, size_at q.entries c.loop-j.j) (index_is _ _ _ _ _ c.same_part.ensures)) c.if-same_part.true

pub loop-j-preserved : goal.loop-j-preserved
loop-j-preserved c =
    let q = c.args.self.now in
    other_index c.loop-j.invariant c.loop-j-test.true (kind_at q.entries c.loop-j.j ∙ c.if-entry-kind.false)
    (rw (start_at q.entries c.loop-j.j, size_at q.entries c.loop-j.j) (index_is _ _ _ _ _ c.same_part.ensures)) c.if-same_part.false

pub returns : goal.returns
returns c = none_is c.loop-j.invariant c.loop-j-test.false
