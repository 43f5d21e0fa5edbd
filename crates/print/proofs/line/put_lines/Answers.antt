use Rattle.std.proofs.Common.{◌∙◌}
use Rattle.print.proofs.RowLaws.{writing_more}
use Rattle.print.proofs.line.put_lines.Goals as goal

pub loop-i-preserved : goal.loop-i-preserved
loop-i-preserved g c =
    let p = c.put.ensures in
    let i = c.index-second-i in
    (writing_more _ c.loop-i.invariant.0 i.result c.loop-i-test.true (rw (← i.is) p.put) p.few, p.same ∙ c.loop-i.invariant.1)
