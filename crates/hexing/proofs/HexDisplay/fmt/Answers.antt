use Rattle.std.proofs.Common.{◌≡◌, ◌∙◌, ◌++◌, [], ◌∷◌, take, get_or, sym, ap, rules, append_assoc}
use Rattle.std.proofs.Output.{has_written_append, has_written_of_eq}
use Rattle.std.proofs.lemmas.List.{flat_map_more, take_all, take_more}
use Rattle.hexing.specs.Digits.{behind, pair_of, spelled}
use Rattle.hexing.proofs.HexDisplay.fmt.Goals as goal

pub loop-b-preserved : goal.loop-b-preserved
loop-b-preserved g c = λ plain.
    let between = c.args.self.now.between.now in
    let others = c.in-Some.others.now in
    let n = c.loop-b.b-index in
    let b = get_or others n 0 in
    let done = c.loop-b.invariant plain in
    let first = c.write_str.ensures.writes done.plain (search rules) in
    let second = c.put_pair-in-loop-b.ensures first.plain (search rules) in
    let same = append_assoc (behind between (take n others)) between (pair_of b) ∙ flat_map_more (λ b. between ++ pair_of b) [] (take n others) b
    ∙ ap (behind between) (sym (take_more others n 0 c.loop-b-test.true)) in
    has_written_of_eq _ _ _ _ _ same (has_written_append _ _ _ _ _ _ (has_written_append _ _ _ _ _ _ done first) second)

pub returns-clause-writes : goal.returns-clause-writes
returns-clause-writes g c = λ plain _.
    let between = c.args.self.now.between.now in
    let others = c.in-Some.others.now in
    let first = c.in-Some.first.now in
    let one = c.put_pair.ensures plain (search rules) in
    let bytes : c.args.self.now.bytes.now ≡ first ∷ others = search rules in
    let same = ap (λ t. pair_of first ++ behind between t) (take_all c.loop-b.b-index others c.loop-b-test.false) ∙ ap (spelled between) (sym bytes) in
    has_written_of_eq _ _ _ _ _ same (has_written_append _ _ _ _ _ _ one (c.loop-b.invariant one.plain))
