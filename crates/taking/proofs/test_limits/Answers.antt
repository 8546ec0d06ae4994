use Rattle.taking.proofs.Tests.{limits_full, limits_old, limits_right, limits_left, limits_many, told}
use Rattle.taking.proofs.test_limits.Goals as goal

pub returns-then-not-has_room : goal.returns-then-not-has_room
returns-then-not-has_room c = limits_full _ _ _ (told c.has_room.ensures c.if-not-has_room.true)

pub returns-then-not-new : goal.returns-then-not-new
returns-then-not-new c = limits_old _ _ _ (told c.has_room.ensures c.if-not-has_room.false) c.if-not-new.true

pub returns-then-state-eq-RIGHT : goal.returns-then-state-eq-RIGHT
returns-then-state-eq-RIGHT c =
    limits_right _ _ _ (told c.has_room.ensures c.if-not-has_room.false) c.if-not-new.false c.if-state-eq-RIGHT.true

pub returns-then-state-lt16 : goal.returns-then-state-lt16
returns-then-state-lt16 c =
    limits_left _ _ _ (told c.has_room.ensures c.if-not-has_room.false)
    c.if-not-new.false c.if-state-eq-RIGHT.false c.if-state-lt16.true

pub returns-else-state-lt16 : goal.returns-else-state-lt16
returns-else-state-lt16 c =
    limits_many _ _ _ (told c.has_room.ensures c.if-not-has_room.false)
    c.if-not-new.false c.if-state-eq-RIGHT.false c.if-state-lt16.false
