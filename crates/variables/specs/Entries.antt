-- The columns of the entries.
use Rattle.std.specs.Prelude.{List, map, ℕ}
use Rattle.variables.specs.declared.Entry.{Entry}

abbrev pub kinds : List Entry → List ℕ
kinds = map (λ e. e.kind)

abbrev pub starts : List Entry → List ℕ
starts = map (λ e. e.start)

abbrev pub sizes : List Entry → List ℕ
sizes = map (λ e. e.size)
