use Rattle.table.proofs.FillLaws.{filling_more}
use Rattle.table.proofs.copy.fill.Goals as goal

pub loop-x-preserved : goal.loop-x-preserved
loop-x-preserved g c = let l = c.loop-x in filling_more c.args.value c.args.t.now l.t l.x-index l.invariant c.loop-x-test.true
