use mathlib.Core.Path.{refl}
use Rattle.std.proofs.Common.{⊎_elim}
use Rattle.meaning.specs.Pointer.{pointer}
use Rattle.desk.proofs.pointer.Goals as goal

pub returns-in-Done : goal.returns-in-Done
unfolding pointer
returns-in-Done c = ⊎_elim (λ e. rw e refl) (⊎_elim (λ e. rw e refl) (λ e. rw e refl)) c.in-Done.is

pub returns-in-NoMatch : goal.returns-in-NoMatch
unfolding pointer
returns-in-NoMatch c =
    let h = c.in_field.ensures in
    ⊎_elim (λ e. rw e h) (⊎_elim (λ e. rw e h) (λ e. rw e h)) c.in-NoMatch.is

pub returns-in-BadProgram : goal.returns-in-BadProgram
unfolding pointer
returns-in-BadProgram c = rw c.in-BadProgram.is c.in_program.ensures

pub returns-in-BadField : goal.returns-in-BadField
unfolding pointer
returns-in-BadField c = rw c.in-BadField.is c.in_field-in-BadField.ensures
