use Prim.Native.Nat.{◌-◌}
use lib.ListN.{length}
use Rattle.question.specs.Walk.{Left}
use Rattle.question.proofs.walk.first_taken.Given as goal

-- `walk::first_taken`: what is left of the table has the same first cell. Assumes nothing.
abbrev pub invariant-loop-i : goal.invariant-loop-i
invariant-loop-i g l = Left l.columns (g.S.Taking.shape l.shape) l.cells l.i

abbrev pub decreases-loop-i : goal.decreases-loop-i
decreases-loop-i g l = length l.cells - l.i
