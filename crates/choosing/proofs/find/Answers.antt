use mathlib.Core.Path.{refl}
use Rattle.meaning.specs.Elements.{body}
use Rattle.choosing.proofs.Rest.{header_fits, named_here, named-not, found_other, found_end}
use Rattle.choosing.proofs.find.Goals as goal

pub read_as-header-requires : goal.read_as-header-requires
read_as-header-requires c =
    header_fits c.loop-c-test.true c.loop-c.invariant.whole c.pass-passed.ensures c.if-passed-eq-HEADER.true

pub is_name-requires : goal.is_name-requires
unfolding body
is_name-requires c = c.read_as-header.ensures.small

pub returns-then-is_name : goal.returns-then-is_name
returns-then-is_name c =
    named_here c.loop-c.invariant c.loop-c-test.true c.pass-passed.ensures c.if-passed-eq-HEADER.true c.read_as-header.ensures
    c.is_name.ensures c.if-is_name.true _ refl

pub loop-c-preserved-else-is_name : goal.loop-c-preserved-else-is_name
loop-c-preserved-else-is_name c =
    named-not c.loop-c.invariant c.loop-c-test.true c.pass-passed.ensures c.if-passed-eq-HEADER.true c.read_as-header.ensures
    c.is_name.ensures c.if-is_name.false

pub loop-c-preserved : goal.loop-c-preserved
loop-c-preserved c = found_other c.loop-c.invariant c.loop-c-test.true c.pass-passed.ensures c.if-passed-eq-HEADER.false

pub returns : goal.returns
returns c = found_end c.loop-c.invariant c.loop-c-test.false
