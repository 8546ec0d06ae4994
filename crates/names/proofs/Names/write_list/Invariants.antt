use Rattle.names.specs.Entries.{firsts}
use Rattle.names.proofs.Writing.{Written}
use Rattle.names.proofs.Names.write_list.Given as goal

abbrev pub invariant-loop-k : goal.invariant-loop-k
invariant-loop-k l = Written l.self.text.now (firsts l.self.entries) l.initial.list l.list l.k
