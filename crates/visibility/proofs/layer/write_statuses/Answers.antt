use Rattle.visibility.proofs.RedrawLaws.{writing_done, writing_more}
use Rattle.visibility.proofs.layer.write_statuses.Goals as goal

pub loop-i-preserved : goal.loop-i-preserved
loop-i-preserved c =
    let k = c.loop-i in
    writing_more c.args.moods.now c.args.out.now k.out k.i c.requires k.invariant c.loop-i-test.true c.of_word.result c.of_word.ensures.2

pub returns : goal.returns
returns c =
    let k = c.loop-i in
    writing_done c.args.moods.now c.args.out.now k.out k.i c.requires k.invariant c.loop-i-test.false
