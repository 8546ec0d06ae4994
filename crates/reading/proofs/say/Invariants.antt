use mathlib.Core.Path.{◌≡◌}
use Prim.Native.Nat.{◌-◌}
use lib.ListN.{length}
use Rattle.names.specs.Entries.{firsts}
use Rattle.variables.specs.Entries.{kinds, starts, sizes}
use Rattle.reading.proofs.Saying.{Reads}
use Rattle.reading.proofs.say.Given as goal

abbrev pub invariant-loop-at : goal.invariant-loop-at
invariant-loop-at l = record {
  reads : Reads l.text (firsts l.names.entries) (kinds l.variables.entries) (starts l.variables.entries) (sizes l.variables.entries) l.stack l.buf l.reader l.at;
  names_are : l.reader.names ≡ l.names.count;
  variables_are : l.reader.variables ≡ l.variables.count;
  names_text : l.names.text ≡ l.initial.names.text;
  variables_text : l.variables.text ≡ l.names.text;
}

abbrev pub decreases-loop-at : goal.decreases-loop-at
decreases-loop-at l = length l.text - l.at
