use native.Mathlib.Omega.{arith}
use Rattle.checking.proofs.Passing.{few, symbol_passed}
use Rattle.checking.proofs.pass_symbol.Goals as goal

pub overflow_add-state : goal.overflow_add-state
overflow_add-state c = omega (arith, few c.args.state c.requires)

pub returns : goal.returns
returns c = λ st k n R low high. symbol_passed c.args.state c.requires k n low high st R
