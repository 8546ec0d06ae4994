use mathlib.Core.Path.{refl, ap, ◌∙◌}
use denote.Bor.{Bor}
use mathlib.Core.List.{List}
use Prim.Native.Nat.{ℕ}
use Rattle.desk.proofs.Pointing.{rest_found}
use Rattle.desk.proofs.in_program.Goals as goal

pub returns : goal.returns
returns c = ap (λ (x : Bor (List ℕ)). x.now) c.unwrap_or.ensures ∙ rest_found c.args.place c.args.program.now c.get.result _ refl c.get.ensures.lookup.0
