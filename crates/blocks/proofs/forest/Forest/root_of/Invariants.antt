use Rattle.blocks.proofs.ForestLaws.{Climbing}
use Rattle.blocks.proofs.forest.Forest.root_of.Given as goal

-- `Forest::root_of`: the way from i ends where that from `at` did. Assumes nothing.
abbrev pub invariant-loop-up : goal.invariant-loop-up
invariant-loop-up l = Climbing l.fn.self.parents l.at l.self.parents l.i l.up

abbrev pub decreases-loop-up : goal.decreases-loop-up
decreases-loop-up l = l.i
