use Rattle.limits.proofs.EntryLaws.{looked_long, looked_short}
use Rattle.limits.proofs.judge.batch_due.Goals as goal

-- `judge::batch_due`: 3, or 4 and 5, added to a word. Assumes nothing.
pub returns-then-batch-gt-BATCH : goal.returns-then-batch-gt-BATCH
returns-then-batch-gt-BATCH c = let a = c.args in looked_long a.batch.now a.others.word c.and.result.word c.if-batch-gt-BATCH.true c.and.ensures

pub returns : goal.returns
returns c =
    let a = c.args in
    looked_short a.batch.now a.others.word c.and-2.result.word c.and-3.result.word c.disorder.result c.outside.result c.if-batch-gt-BATCH.false c.and-2.ensures c.outside.ensures c.and-3.ensures c.disorder.ensures
