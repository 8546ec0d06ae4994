use Rattle.settling.proofs.Ends.{held_in}
use Rattle.kinds.specs.Slots.{value_of}
use mathlib.Core.Path.{sym, ◌∙◌, refl}
use Rattle.settling.proofs.Values.value.Goals as goal

pub slice_bounds-result-count : goal.slice_bounds-result-count
slice_bounds-result-count c = (held_in c.requires.0 c.args.slot c.requires.1 (sym c.has.ensures ∙ c.if-has.true)).up

pub slice_bounds-result-start : goal.slice_bounds-result-start
slice_bounds-result-start c = (held_in c.requires.0 c.args.slot c.requires.1 (sym c.has.ensures ∙ c.if-has.true)).up

pub slice_bounds-result-end : goal.slice_bounds-result-end
slice_bounds-result-end c = (held_in c.requires.0 c.args.slot c.requires.1 (sym c.has.ensures ∙ c.if-has.true)).fits

pub returns-then-has : goal.returns-then-has
unfolding value_of
returns-then-has c = (sym c.has.ensures ∙ c.if-has.true, refl)
