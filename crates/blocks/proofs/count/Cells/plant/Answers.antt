use native.Mathlib.Omega.{arith}
use Rattle.blocks.proofs.MetLaws.{planted}
use Rattle.blocks.proofs.count.Cells.plant.Goals as goal

-- `Cells::plant`: a tree of its own, and then both cells. Assumes nothing.
pub returns : goal.returns
returns c = planted c.args.forest.now.down (omega (arith, c.args.self.few, c.args.forest.now.full)) c.requires c.join_above-above.ensures c.join_right-right.ensures
