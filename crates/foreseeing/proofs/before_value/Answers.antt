use Rattle.foreseeing.proofs.Foreseen.{value_begins, character_known}
use mathlib.Core.Path.{refl, sym, ◌∙◌}
use mathlib.Core.Bool.{false}
use Rattle.foreseeing.proofs.before_value.Goals as goal

pub returns : goal.returns
returns c =
    value_begins _ c.args.value.now false c.args.arg.now
    (λ q. rw c.byte_of-2.ensures (character_known c.args.value.now c.requires (sym c.byte_of.ensures ∙ q)))
    c.byte_of.ensures c.byte_of-2.ensures c.byte_of-3.ensures refl refl
