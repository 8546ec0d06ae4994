use mathlib.Core.Path.{◌≡◌}
use lib.ListN.{drop}
use mathlib.Core.List.{map}
use Rattle.meaning.specs.Elements.{same}
use Rattle.classes.specs.Table.{spelling}
use Rattle.variables.proofs.same_part.Given as goal

abbrev pub invariant-loop-k : goal.invariant-loop-k
invariant-loop-k l = same (map spelling (drop l.k l.a)) (map spelling (drop l.k l.b)) ≡ same (map spelling l.a) (map spelling l.b)
