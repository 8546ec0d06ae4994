-- The columns of the entries: where each name first begins, and its link.
use Rattle.std.specs.Prelude.{List, map, ℕ}
use Rattle.names.specs.declared.Entry.{Entry}

abbrev pub firsts : List Entry → List ℕ
firsts = map (λ e. e.first)

abbrev pub links : List Entry → List ℕ
links = map (λ e. e.link)
