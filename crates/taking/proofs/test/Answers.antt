use Rattle.taking.specs.Standing.{tests_of}
use Rattle.taking.proofs.Tests.{fails, passes, told}
use Rattle.taking.proofs.test.Goals as goal

pub returns-then-not-is_numbered : goal.returns-then-not-is_numbered
unfolding tests_of
returns-then-not-is_numbered c =
    passes 3 _ c.requires.0 (fails 4 _ (told c.is_numbered.ensures c.if-not-is_numbered.true))

pub returns-then-not-is_paired : goal.returns-then-not-is_paired
unfolding tests_of
returns-then-not-is_paired c =
    passes 3 _ c.requires.0
    (passes 4 _ (told c.is_numbered.ensures c.if-not-is_numbered.false) (fails 5 _ (told c.is_paired.ensures c.if-not-is_paired.true)))

pub returns : goal.returns
unfolding tests_of
returns c =
    passes 3 _ c.requires.0
    (passes 4 _ (told c.is_numbered.ensures c.if-not-is_numbered.false)
    (passes 5 _ (told c.is_paired.ensures c.if-not-is_paired.false) c.test_limits.ensures))
