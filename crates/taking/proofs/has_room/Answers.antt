use Rattle.taking.proofs.Tests.{told, room_end, room_field, room_else}
use Rattle.taking.proofs.has_room.Goals as goal

pub returns-then-ends_side : goal.returns-then-ends_side
returns-then-ends_side c = room_end _ _ _ (told c.ends_side.ensures c.if-ends_side.true)

pub returns-then-part-eq-FIELD : goal.returns-then-part-eq-FIELD
returns-then-part-eq-FIELD c = room_field _ _ _ (told c.ends_side.ensures c.if-ends_side.false) c.if-part-eq-FIELD.true

pub returns-else-part-eq-FIELD : goal.returns-else-part-eq-FIELD
returns-else-part-eq-FIELD c =
    room_else _ _ _ (told c.ends_side.ensures c.if-ends_side.false) (c.limit_of.ensures _ c.if-part-eq-FIELD.false)
