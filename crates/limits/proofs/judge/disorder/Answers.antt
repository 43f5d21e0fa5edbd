use mathlib.Core.Path.{refl}
use borrow.Author.Tests.{eq-eqb, ne_eqb}
use Rattle.limits.specs.Batches.{ragged}
use Rattle.limits.proofs.judge.disorder.Goals as goal

-- `judge::disorder`: a ragged batch, or one that does not ascend. Assumes nothing.
pub returns-then-batch-ne0 : goal.returns-then-batch-ne0
unfolding ragged
returns-then-batch-ne0 c = rw (ne_eqb _ 0 c.if-batch-ne0.true) refl

pub returns-else-batch-ne0 : goal.returns-else-batch-ne0
unfolding ragged
returns-else-batch-ne0 c = rw (eq-eqb _ 0 c.if-batch-ne0.false) c.unsorted.ensures
