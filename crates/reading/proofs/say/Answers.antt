use mathlib.Core.Path.{refl, sym, ◌∙◌}
use Prim.Native.Nat.{ℕ}
use native.Mathlib.Omega.{arith}
use lib.ListN.{length-replicate}
use Rattle.putting.proofs.Putting.{led, barred}
use Rattle.reading.specs.Reading.{begun, bad}
use Rattle.reading.proofs.Saying.{reads_first, reads_able, reads_gap, known_able, known_entered, turn_bad, turn, saying_end, meeting_of}
use Rattle.reading.proofs.say.Goals as goal

pub loop-at-init : goal.loop-at-init
unfolding begun
loop-at-init c =
    record {
      reads = rw c.begin-reader.ensures (reads_first _ _ _ _ _ _ _ (omega (arith, length-replicate {A = ℕ} 400 0)) (omega (arith, c.requires.1)));
      names_are = rw c.begin-reader.ensures (sym c.requires.0);
      variables_are = rw c.begin-reader.ensures (sym c.new-variables.ensures.count);
      names_text = refl;
      variables_text = c.new-variables.ensures.text;
    }

pub loop-at-preserved-then-is_gap : goal.loop-at-preserved-then-is_gap
loop-at-preserved-then-is_gap c =
    let i = c.loop-at.invariant in
    record {
      reads = reads_gap i.reads c.lex-lexeme.result c.lex-lexeme.ensures c.loop-at-test.true (sym c.is_gap.ensures ∙ c.if-is_gap.true);
      names_are = i.names_are;
      variables_are = i.variables_are;
      names_text = i.names_text;
      variables_text = i.variables_text;
    }

pub enter-requires : goal.enter-requires
enter-requires c =
    let i = c.loop-at.invariant in
    let m = meeting_of c.meet-number.ensures c.loop-at.reader _ i.names_text i.names_are i.variables_are in
    let g = sym c.is_gap.ensures ∙ c.if-is_gap.false in (
      known_able i.reads c.lex-lexeme.result c.lex-lexeme.ensures c.loop-at-test.true g m,
      c.loop-at-test.true,
      known_entered i.reads c.lex-lexeme.result c.lex-lexeme.ensures c.loop-at-test.true g m,
    )

pub returns-in_default : goal.returns-in_default
returns-in_default c =
    let i = c.loop-at.invariant in
    let m = meeting_of c.meet-number.ensures c.loop-at.reader _ i.names_text i.names_are i.variables_are in
    let g = sym c.is_gap.ensures ∙ c.if-is_gap.false in
    record {
      saying = bad (turn_bad i.reads c.lex-lexeme.result c.lex-lexeme.ensures c.loop-at-test.true g m (barred c.in_default.ensures));
      text = c.meet-number.ensures.names_text ∙ i.names_text;
    }

pub loop-at-preserved : goal.loop-at-preserved
loop-at-preserved c =
    let i = c.loop-at.invariant in
    let m = meeting_of c.meet-number.ensures c.loop-at.reader _ i.names_text i.names_are i.variables_are in
    let g = sym c.is_gap.ensures ∙ c.if-is_gap.false in
    let d = led c.in-Some.ensures in
    record {
      reads = rw c.keep.ensures.entries (turn i.reads c.lex-lexeme.result c.lex-lexeme.ensures c.loop-at-test.true g m d);
      names_are = d.names;
      variables_are = sym c.keep.ensures.count;
      names_text = c.meet-number.ensures.names_text ∙ i.names_text;
      variables_text = c.keep.ensures.text ∙ c.meet-number.ensures.variables_text ∙ i.variables_text ∙ sym c.meet-number.ensures.names_text;
    }

pub finish-requires : goal.finish-requires
finish-requires c = reads_able c.loop-at.invariant.reads

pub returns : goal.returns
returns c =
    let i = c.loop-at.invariant in
    record { saying = rw (← i.names_are) (saying_end i.reads c.loop-at-test.false c.finish.ensures); text = i.names_text }
