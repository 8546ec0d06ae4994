use Rattle.desk.proofs.Pointing.{used_past_field, place_past_used, inside_used}
use Rattle.desk.proofs.in_field.Goals as goal
use Rattle.desk.proofs.in_field.Goals.{then-field-used-via-then-field-used, then-field-used-via-else-field-used+then-used-place}

pub returns-then-field-used : goal.returns-then-field-used
returns-then-field-used c =
    elim c.then-field-used.branch [
      | then-field-used-via-then-field-used w ↦ used_past_field _ _ _ w.if-field-used.true
      | then-field-used-via-else-field-used+then-used-place w ↦ place_past_used _ _ _ w.if-field-used.false w.if-used-place.true
    ]

pub returns : goal.returns
returns c = inside_used _ _ _ c.if-field-used.false c.if-used-place.false
