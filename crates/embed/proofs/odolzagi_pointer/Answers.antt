use mathlib.Core.Path.{refl}
use borrow.Author.Tests.{eq-eqb, ne_eqb}
use Rattle.embed.proofs.Faces.{no_part, empty-part, whole_part}
use Rattle.embed.proofs.odolzagi_pointer.Goals as goal

pub returns-then-part-lt3 : goal.returns-then-part-lt3
returns-then-part-lt3 c = no_part _ _ _ _ _ _ c.if-part-lt3.true

pub returns-then-length-eq0 : goal.returns-then-length-eq0
returns-then-length-eq0 c =
    empty-part _ _ _ _ _ _ c.if-part-lt3.false c.part_length-length.ensures c.if-length-eq0.true c.write.ensures

pub returns-then-code-eq6 : goal.returns-then-code-eq6
returns-then-code-eq6 c =
    whole_part _ _ _ _ _ _ c.if-part-lt3.false c.part_length-length.ensures c.if-length-eq0.false (simp (eq-eqb _ _ c.if-code-eq6.true) refl) c.write-then-code-eq6.ensures

pub returns : goal.returns
returns c =
    whole_part _ _ _ _ _ _ c.if-part-lt3.false c.part_length-length.ensures c.if-length-eq0.false (simp (ne_eqb _ _ c.if-code-eq6.false) refl) c.write-2.ensures
