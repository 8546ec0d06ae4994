use mathlib.Core.Path.{◌∙◌}
use Rattle.reading.proofs.Giving.{refused_is, long_text, long_program, long_list, sized}
use Rattle.reading.proofs.read.Goals as goal
use Rattle.reading.proofs.read.Goals.{then-text-gt-LONGEST-via-then-text-gt-LONGEST, then-text-gt-LONGEST-via-else-text-gt-LONGEST+then-program-gt-LONGEST, then-text-gt-LONGEST-via-else-text-gt-LONGEST+else-program-gt-LONGEST+then-list-gt-LONGEST}

pub returns-then-text-gt-LONGEST : goal.returns-then-text-gt-LONGEST
returns-then-text-gt-LONGEST c =
    rw (refused_is c.refused.ensures)
    (elim c.then-text-gt-LONGEST.branch [
      | then-text-gt-LONGEST-via-then-text-gt-LONGEST w ↦ long_text _ _ _ w.if-text-gt-LONGEST.true
      | then-text-gt-LONGEST-via-else-text-gt-LONGEST+then-program-gt-LONGEST w ↦
          long_program _ _ _ w.if-text-gt-LONGEST.false w.if-program-gt-LONGEST.true
      | then-text-gt-LONGEST-via-else-text-gt-LONGEST+else-program-gt-LONGEST+then-list-gt-LONGEST w ↦
          long_list _ _ _ w.if-text-gt-LONGEST.false w.if-program-gt-LONGEST.false w.if-list-gt-LONGEST.true
    ])

pub returns : goal.returns
returns c =
    c.read_sized.ensures ∙ sized _ _ _ c.if-text-gt-LONGEST.false c.if-program-gt-LONGEST.false c.if-list-gt-LONGEST.false
