use Rattle.names.specs.Entries.{firsts}
use Rattle.names.proofs.Chains.{Walk}
use Rattle.names.proofs.Names.find.Given as goal

abbrev pub invariant-loop-h : goal.invariant-loop-h
invariant-loop-h l = Walk l.self.text.now (firsts l.self.entries) l.self.count l.at l.h

abbrev pub decreases-loop-h : goal.decreases-loop-h
decreases-loop-h l = l.h
