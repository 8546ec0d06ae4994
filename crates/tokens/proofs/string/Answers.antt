use mathlib.Core.Path.{sym, ◌∙◌}
use Rattle.tokens.proofs.Lexing.{tells, tells_wrong, string_open, string_long, string_some}
use Rattle.tokens.proofs.string.Goals as goal
use Rattle.tokens.proofs.string.Goals.{in_default-via-in-Some+else-closed-le255, in_default-via-in_default}

pub returns-in-Some : goal.returns-in-Some
returns-in-Some c =
    tells _ _ c.spanning.ensures
    (string_some c.args.s.now c.args.at _ (sym c.in-Some.is ∙ c.quoted_from.ensures) c.if-closed-le255.true)

pub returns-in_default : goal.returns-in_default
returns-in_default c =
    elim c.in_default.branch [
      | in_default-via-in-Some+else-closed-le255 w ↦
          tells_wrong c.spanning-in_default.ensures
          (string_long c.args.s.now c.args.at _ (sym w.in-Some.is ∙ c.quoted_from.ensures) w.if-closed-le255.false)
      | in_default-via-in_default w ↦ tells_wrong c.spanning-in_default.ensures (string_open c.args.s.now c.args.at (sym w.in_default.is ∙ c.quoted_from.ensures))
    ]
