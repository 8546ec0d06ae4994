use Rattle.foreseeing.proofs.Foreseen.{sound_more, bracket_begins, meant_behind}
use mathlib.Core.Path.{refl}
use Rattle.foreseeing.proofs.before_bracket.Goals as goal

pub returns : goal.returns
returns c =
    sound_more (bracket_begins _ c.unwrap_or-value.result.now c.args.values.arg.now refl c.byte_of.ensures c.byte_of-2.ensures refl refl)
    (λ i y. meant_behind _ _ _ i _ _ _ c.requires.1 c.item_at.ensures c.unwrap_or-value.ensures refl c.meant.ensures y)
