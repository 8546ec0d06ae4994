use mathlib.Core.Path.{refl, ◌∙◌, ap}
use Rattle.choosing.specs.Choose.{slot_for}
use Rattle.meaning.specs.Elements.{body}
use Rattle.choosing.proofs.Table.{table_none, table_in, table_some}
use Rattle.choosing.proofs.Index.look_up.Goals as goal

pub returns-then-place-eq0 : goal.returns-then-place-eq0
returns-then-place-eq0 c =
    let e = c.read_to.ensures in
    let sl = c.slot_of-slot.ensures.0 ∙ ap slot_for (c.from.ensures ∙ c.from_le_bytes.ensures) in
    record
    { looked = table_none e.0 c.args.lo c.args.hi (rw (← sl) c.if-place-eq0.true) (e.1 c.if-place-eq0.true); cache = e.0 }

pub read_as-first-requires : goal.read_as-first-requires
read_as-first-requires c =
    let sl = c.slot_of-slot.ensures.0 ∙ ap slot_for (c.from.ensures ∙ c.from_le_bytes.ensures) in
    (table_in c.read_to.ensures.0 c.args.lo c.args.hi _ (rw (← sl) refl) c.if-place-eq0.false).1

pub is_name-requires : goal.is_name-requires
unfolding body
is_name-requires c = c.read_as-first.ensures.small

pub returns-then-is_name : goal.returns-then-is_name
returns-then-is_name c =
    let e = c.read_to.ensures.0 in
    let sl = c.slot_of-slot.ensures.0 ∙ ap slot_for (c.from.ensures ∙ c.from_le_bytes.ensures) in
    record {
      looked = table_some e c.args.lo c.args.hi _ (rw (← sl) refl) c.if-place-eq0.false c.read_as-first.ensures
          c.is_name.ensures c.if-is_name.true _ refl;
      cache = e;
    }
