use Prim.Native.Nat.{◌≤◌, ◌<◌}
use mathlib.Core.Path.{◌≡◌, sym, ◌∙◌}
use native.Mathlib.Omega.{arith}
use borrow.Author.Tests.{ltb-true, ltb-false}
use Rattle.meaning.proofs.Truth.{never}
use Rattle.settling.specs.Values.{Open}
use Rattle.settling.proofs.Ends.{meant_proper, meant_only, symbol_only, term_only}
use Rattle.settling.proofs.Values.only_end.Goals.{in-Some, in-None}
use Rattle.settling.proofs.Values.only_end.Goals as goal

pub element_end-requires : goal.element_end-requires
element_end-requires c = (meant_proper c.requires.placed c.requires.table c.in-Some-meant.ensures, c.requires.level.fits)

pub returns-in-Some-meant : goal.returns-in-Some-meant
returns-in-Some-meant c = meant_only c.requires _ c.in-Some-meant.ensures c.element_end.ensures

pub returns-in-Some-2 : goal.returns-in-Some-2
returns-in-Some-2 c = meant_only c.requires _ c.in-Some-meant.ensures c.value_end.ensures

pub returns-in-None-meant : goal.returns-in-None-meant
returns-in-None-meant c =
    let o : Open c.args.item.slot c.args.self.settled.bits = c.in-None-meant.ensures in
    let near : o.s < 16 = elim c.match-item.branch [
      | in-Some w ↦ (let e : w.in-Some.slot ≡ o.s = cc (w.in-Some.is, o.is) in omega (arith, ltb-true w.in-Some.slot 16 (sym w.one-is ∙ c.if-one-2.true)))
      | in-None w ↦ never (cc o.is)
    ] in
    symbol_only c.requires _ o near c.symbol_end.ensures

pub returns-in-None-2 : goal.returns-in-None-2
returns-in-None-2 c =
    let o : Open c.args.item.slot c.args.self.settled.bits = c.in-None-meant.ensures in
    let far : 16 ≤ o.s = elim c.match-item.branch [
      | in-Some w ↦ (let e : w.in-Some.slot ≡ o.s = cc (w.in-Some.is, o.is) in omega (arith, ltb-false w.in-Some.slot 16 (sym w.one-is ∙ c.if-one-2.false)))
      | in-None w ↦ never (cc o.is)
    ] in
    term_only c.requires _ o far c.term_end.ensures
