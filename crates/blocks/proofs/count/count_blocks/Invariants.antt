use Rattle.blocks.proofs.CountLaws.{Counting}
use Rattle.blocks.proofs.count.count_blocks.Given as goal

-- `count_blocks`: the cells are planted from the last to the first. Assumes nothing.
abbrev pub invariant-loop-i : goal.invariant-loop-i
invariant-loop-i l = Counting l.cells l.forest.parents l.i l.joined
