use mathlib.Core.Path.{◌≡◌, refl}
use lib.ListN.{length}
use borrow.Author.Rules.{rules}
use Rattle.variables.proofs.Entries.{inside_with, numbered_with, numbered_same}
use Rattle.variables.proofs.Variables.number.Goals as goal

pub invariant_of-self : goal.invariant_of-self
invariant_of-self c =
    let q = c.args.self.now in
    let long : length q.entries ≡ 49 = search rules in
    record { short = q.short; inside = inside_with q _ _ _ _ (c.in-Err.ensures) c.requires.size_in_bounds.0 c.requires.room long }

pub returns-in-Ok : goal.returns-in-Ok
returns-in-Ok c = numbered_same c.args.self.now _ _ _ _ c.in-Ok.ensures

pub returns-in-Err : goal.returns-in-Err
returns-in-Err c =
    let q = c.args.self.now in
    let long : length q.entries ≡ 49 = search rules in
    numbered_with q _ _ _ _ c.in-Err.ensures c.requires.size_in_bounds.0 c.requires.room long _ (refl, refl, refl)
