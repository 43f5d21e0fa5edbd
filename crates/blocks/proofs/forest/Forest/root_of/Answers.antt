use Rattle.blocks.proofs.ForestLaws.{climb_more, climb_done}
use Rattle.blocks.proofs.forest.Forest.root_of.Goals as goal

pub loop-up-preserved : goal.loop-up-preserved
loop-up-preserved c = climb_more c.loop-up.invariant c.loop-up-test.true

pub returns : goal.returns
returns c = (climb_done c.loop-up.invariant c.args.self.now.down c.loop-up-test.false, c.loop-up.invariant.same)
