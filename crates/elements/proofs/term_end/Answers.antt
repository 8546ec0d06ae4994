use mathlib.Core.Path.{sym, ◌∙◌}
use Rattle.elements.proofs.Levels.{shutting_here, bracketed}
use Rattle.elements.proofs.Places.{no_term_end, no_term_here, symbol_told}
use Rattle.elements.specs.Reading.{term_at}
use Rattle.meaning.specs.Matching.{symbol, stop}
use native.Mathlib.Omega.{arith}
use Rattle.elements.proofs.term_end.Goals as goal

pub returns-in_err-k : goal.returns-in_err-k
returns-in_err-k c =
    rw c.from_residual.ensures (no_term_end c.args.s.now c.args.at (let h = c.in_err-k.ensures.lookup in omega (arith, h)))

pub returns-then-is_symbol : goal.returns-then-is_symbol
returns-then-is_symbol c =
    let (h, d) = c.in_ok-k.ensures.lookup.3 in
    let e = d 0 in
    let is = rw e at (sym c.is_symbol.ensures ∙ c.if-is_symbol.true) in
    let (t, p) = symbol_told c.args.s.now c.args.at h c.requires.balanced is (rw e at c.length_of.ensures.0) in
    term_at (symbol t stop) p

pub shut_end-requires : goal.shut_end-requires
shut_end-requires c =
    let (h, d) = c.in_ok-k.ensures.lookup.3 in
    shutting_here c.args.s.now c.args.at h c.requires (sym (d 0) ∙ c.in-4.is)

pub returns-in-4 : goal.returns-in-4
returns-in-4 c =
    let (h, d) = c.in_ok-k.ensures.lookup.3 in
    bracketed c.args.s.now c.args.at _ h c.requires (sym (d 0) ∙ c.in-4.is) c.shut_end.ensures

pub returns-in_default-2 : goal.returns-in_default-2
returns-in_default-2 c =
    let (h, d) = c.in_ok-k.ensures.lookup.3 in
    let e = d 0 in
    no_term_here c.args.s.now c.args.at h (rw e at (sym c.is_symbol.ensures ∙ c.if-is_symbol.false)) (λ q. omega arith)
