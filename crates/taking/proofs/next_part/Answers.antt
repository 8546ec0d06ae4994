use mathlib.Core.Path.{refl}
use Rattle.taking.proofs.Parts.{entry_is, leads_some, leads_none, leads_beyond}
use Rattle.taking.proofs.next_part.Goals as goal

pub returns-then-kind-gt31 : goal.returns-then-kind-gt31
returns-then-kind-gt31 c = leads_beyond _ _ c.if-kind-gt31.true

pub overflow_sub-to : goal.overflow_sub-to
overflow_sub-to c = entry_is _ _ c.requires c.if-kind-gt31.false

pub returns-then-to-lt7 : goal.returns-then-to-lt7
returns-then-to-lt7 c = leads_some _ _ _ c.requires c.if-kind-gt31.false refl c.if-to-lt7.true

pub returns-else-to-lt7 : goal.returns-else-to-lt7
returns-else-to-lt7 c = leads_none _ _ _ c.requires c.if-kind-gt31.false refl c.if-to-lt7.false
