use mathlib.Core.Path.{sym, ap, ◌∙◌}
use Prim.Native.Nat.{◌-◌}
use native.Mathlib.Omega.{arith}
use Rattle.meaning.proofs.Truth.{same_eq}
use Rattle.names.specs.Names.{key_at}
use Rattle.names.proofs.Numbers.{differ}
use Rattle.names.proofs.Chains.{walk_start, walk_on, walk_found, walk_none}
use Rattle.names.proofs.Entries.{first_at, link_at}
use Rattle.names.proofs.Names.find.Goals as goal

pub loop-h-init : goal.loop-h-init
loop-h-init c = walk_start c.args.self.now.index c.args.at _ c.requires.1

pub same_name-requires : goal.same_name-requires
same_name-requires c =
    let q = c.args.self.now in
    (c.requires.0, rw (← first_at q.entries (c.loop-h.h - 1)) (q.index.places.inside _ (omega (arith, c.loop-h.invariant.within))))

pub returns-then-same_name : goal.returns-then-same_name
returns-then-same_name c =
    let q = c.args.self.now in (
      omega (arith, c.loop-h.invariant.within),
      walk_found q.index c.args.at _ c.loop-h.invariant (omega arith)
          (same_eq _ _ (sym c.same_name.ensures ∙ c.if-same_name.true) ∙ ap (key_at q.text.now) (sym (first_at q.entries (c.loop-h.h - 1)))),
    )

pub loop-h-smaller : goal.loop-h-smaller
loop-h-smaller c =
    let q = c.args.self.now in
    omega (arith, q.index.link_in (c.loop-h.h - 1) (omega (arith, c.loop-h.invariant.within)), link_at q.entries (c.loop-h.h - 1))

pub loop-h-preserved : goal.loop-h-preserved
loop-h-preserved c =
    let q = c.args.self.now in
    rw (← link_at q.entries (c.loop-h.h - 1))
    (walk_on q.index c.args.at _ c.loop-h.invariant (omega arith)
    (λ e. differ _ _ (e ∙ ap (key_at q.text.now) (first_at q.entries (c.loop-h.h - 1))) (sym c.same_name.ensures ∙ c.if-same_name.false)))

pub returns : goal.returns
returns c = walk_none c.args.self.now.index c.args.at (rw c.loop-h-test.false at c.loop-h.invariant)
