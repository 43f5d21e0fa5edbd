use borrow.Author.Tests.{lt-ltb, le-ltb}
use Rattle.table.specs.Search.{begun}
use Rattle.table.proofs.look.begin.Goals as goal

-- `look::begin` is the definition's two cases. Assumes nothing.
pub returns-then-seen-k : goal.returns-then-seen-k
unfolding begun
returns-then-seen-k c = simp (lt-ltb _ _ c.if-seen-k.true)

pub returns-else-seen-k : goal.returns-else-seen-k
unfolding begun
returns-else-seen-k c = simp (le-ltb _ _ c.if-seen-k.false)
