use borrow.Author.Rules.{rules}
use mathlib.Core.Path.{refl}
use native.Mathlib.Omega.{arith}
use Rattle.choosing.proofs.Sentences.{place_in, has_equals, equals_at, has_end, sentence_at, left_side, choose_none, choose_next, choose_this}
use Rattle.choosing.proofs.choose.Goals as goal

pub kind_at-requires : goal.kind_at-requires
kind_at-requires c = place_in c.loop-c.invariant

pub returns-then-kind_at-eq-FUNCTION_END : goal.returns-then-kind_at-eq-FUNCTION_END
returns-then-kind_at-eq-FUNCTION_END c = choose_none c.loop-c.invariant c.kind_at.ensures c.if-kind_at-eq-FUNCTION_END.true

pub seek_kind-equals-requires : goal.seek_kind-equals-requires
seek_kind-equals-requires c = let i = c.loop-c.invariant in
    record {
      whole = i.whole;
      at_value = has_equals i c.kind_at.ensures c.if-kind_at-eq-FUNCTION_END.false;
    }

pub read_as-right-requires : goal.read_as-right-requires
read_as-right-requires c =
    (equals_at c.loop-c.invariant c.kind_at.ensures c.if-kind_at-eq-FUNCTION_END.false c.seek_kind-equals.ensures refl).fits

pub seek_kind-end-requires : goal.seek_kind-end-requires
seek_kind-end-requires c =
    let i = c.loop-c.invariant in
    let e = c.seek_kind-equals.ensures in
    let r = c.read_as-right.ensures.next_is in
    record {
      whole = (equals_at i c.kind_at.ensures c.if-kind_at-eq-FUNCTION_END.false e r).behind_whole;
      at_value = has_end i c.kind_at.ensures c.if-kind_at-eq-FUNCTION_END.false e r;
    }

pub read_as-next-requires : goal.read_as-next-requires
read_as-next-requires c =
    (sentence_at c.loop-c.invariant c.kind_at.ensures c.if-kind_at-eq-FUNCTION_END.false c.seek_kind-equals.ensures c.read_as-right.ensures.next_is
    c.seek_kind-end.ensures refl).right_side.fits

pub slice_bounds-match_left-end : goal.slice_bounds-match_left-end
slice_bounds-match_left-end c =
    let l = equals_at c.loop-c.invariant c.kind_at.ensures c.if-kind_at-eq-FUNCTION_END.false c.seek_kind-equals.ensures refl in
    omega (arith, l.up, l.on, l.fits)

pub match_left-requires : goal.match_left-requires
match_left-requires c =
    record {
      left_side = left_side c.loop-c.invariant c.kind_at.ensures c.if-kind_at-eq-FUNCTION_END.false c.seek_kind-equals.ensures;
      argument = c.requires.balanced;
      long = search rules;
    }

pub returns-then-match_left : goal.returns-then-match_left
returns-then-match_left c =
    let i = c.loop-c.invariant in
    let t = sentence_at i c.kind_at.ensures c.if-kind_at-eq-FUNCTION_END.false c.seek_kind-equals.ensures c.read_as-right.ensures.next_is
    c.seek_kind-end.ensures c.read_as-next.ensures.next_is in
    choose_this i t c.if-match_left.true c.match_left.ensures

pub loop-c-smaller : goal.loop-c-smaller
loop-c-smaller c =
    let i = c.loop-c.invariant in
    let t = sentence_at i c.kind_at.ensures c.if-kind_at-eq-FUNCTION_END.false c.seek_kind-equals.ensures c.read_as-right.ensures.next_is
    c.seek_kind-end.ensures c.read_as-next.ensures.next_is in
    omega (arith, t.left.up, t.left.on, t.right_side.up, t.right_side.on, t.right_side.fits)

pub loop-c-preserved : goal.loop-c-preserved
loop-c-preserved c =
    let i = c.loop-c.invariant in
    let t = sentence_at i c.kind_at.ensures c.if-kind_at-eq-FUNCTION_END.false c.seek_kind-equals.ensures c.read_as-right.ensures.next_is
    c.seek_kind-end.ensures c.read_as-next.ensures.next_is in
    choose_next i t c.if-match_left.false c.match_left.ensures
