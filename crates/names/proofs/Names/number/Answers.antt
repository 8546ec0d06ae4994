use mathlib.Core.Path.{◌≡◌, refl, sym, ap, ◌∙◌}
use Prim.Native.Nat.{◌+◌, ◌≤◌}
use native.Mathlib.Omega.{arith}
use lib.ListN.{length}
use borrow.Author.Rules.{rules}
use Rattle.names.proofs.Entries.{index_with, numbered_with, numbered_same, found_is, found_most}
use Rattle.names.proofs.Names.number.Goals as goal
use Rattle.names.proofs.Names.number.Goals.{then-number-count, else-number-count}

pub invariant_of-self : goal.invariant_of-self
invariant_of-self c =
    let q = c.args.self.now in
    let found = c.unwrap_or-number.ensures ∙ found_is q c.args.at _ c.find.ensures in
    elim c.if-number-count.branch [
      | then-number-count w ↦
          let long : length q.entries ≡ 32768 = search rules in
          let new = sym w.if-number-count.true ∙ found in
          let more : c.max-self.result ≡ q.count + 1 = omega (arith, w.if-number-count.true) in
          rw w.self-is (record { short = q.short; index = rw more (index_with q c.args.at _ new c.requires.at_in_bounds c.requires.room long c.bucket_of-b.ensures) })
      | else-number-count w ↦
          let most : c.unwrap_or-number.result ≤ q.count = rw c.unwrap_or-number.ensures (found_most q c.args.at _ c.find.ensures) in
          let same : c.max-self.result ≡ q.count = omega (arith, most, w.if-number-count.false) in
          rw w.self-is (record { short = q.short; index = rw same q.index })
    ]

pub returns : goal.returns
returns c =
    let q = c.args.self.now in
    let found = c.unwrap_or-number.ensures ∙ found_is q c.args.at _ c.find.ensures in
    elim c.if-number-count.branch [
      | then-number-count w ↦
          let long : length q.entries ≡ 32768 = search rules in
          let new = sym w.if-number-count.true ∙ found in
          let more : c.max-self.result ≡ q.count + 1 = omega (arith, w.if-number-count.true) in
          rw w.if-number-count.true
          (numbered_with q c.args.at _ new c.requires.at_in_bounds c.requires.room long c.bucket_of-b.ensures _
          (refl, ap (λ x. x.1.1.0) w.self-is, ap (λ x. x.1.1.1.0) w.self-is, more))
      | else-number-count w ↦
          let most : c.unwrap_or-number.result ≤ q.count = rw c.unwrap_or-number.ensures (found_most q c.args.at _ c.find.ensures) in
          let same : c.max-self.result ≡ q.count = omega (arith, most, w.if-number-count.false) in
          numbered_same q c.args.at _ found w.if-number-count.false _ (refl, ap (λ x. x.1.1.0) w.self-is, ap (λ x. x.1.1.1.0) w.self-is, same)
    ]
