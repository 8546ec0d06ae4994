use mathlib.Core.Path.{sym, ◌∙◌}
use native.Mathlib.Omega.{arith}
use Rattle.elements.specs.Reading.{symbol_at}
use Rattle.elements.proofs.Places.{no_symbol_end, no_symbol_here, symbol_told}
use Rattle.elements.proofs.symbol_end.Goals as goal

pub returns-in_err-k : goal.returns-in_err-k
returns-in_err-k c =
    rw c.from_residual.ensures (no_symbol_end c.args.s.now c.args.at (let h = c.in_err-k.ensures.lookup in omega (arith, h)))

pub returns-then-is_symbol : goal.returns-then-is_symbol
returns-then-is_symbol c =
    let (h, d) = c.in_ok-k.ensures.lookup.3 in
    let e = d 0 in
    let is = rw e at (sym c.is_symbol.ensures ∙ c.if-is_symbol.true) in
    let (t, p) = symbol_told c.args.s.now c.args.at h c.requires.balanced is (rw e at c.length_of.ensures.0) in
    symbol_at t p

pub returns-else-is_symbol : goal.returns-else-is_symbol
returns-else-is_symbol c =
    let (h, d) = c.in_ok-k.ensures.lookup.3 in
    no_symbol_here c.args.s.now c.args.at h (rw (d 0) at (sym c.is_symbol.ensures ∙ c.if-is_symbol.false))
