use mathlib.Core.List.{◌∷◌}
use Rattle.classes.specs.Table.{part}
use Rattle.variables.specs.Entries.{kinds, starts, sizes}
use Rattle.variables.proofs.Finding.{Seeks}
use Rattle.variables.proofs.Variables.find.Given as goal

abbrev pub invariant-loop-j : goal.invariant-loop-j
invariant-loop-j l =
    Seeks l.self.text.now (kinds l.self.entries) (starts l.self.entries) (sizes l.self.entries) l.self.count (l.kind ∷ part l.self.text.now l.start l.size) l.j l.number
