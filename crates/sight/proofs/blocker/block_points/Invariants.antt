use Rattle.sight.proofs.BlockLaws.{Blocking}
use Rattle.sight.proofs.blocker.block_points.Given as goal

-- `blocker::block_points`: the points one after another, each written to its place. Assumes nothing.
abbrev pub invariant-loop-i : goal.invariant-loop-i
invariant-loop-i l = Blocking l.ground.size l.ground.radius l.reach l.ground.cells.now l.changes.cells.now l.changes.full.now l.present.points.now l.present.words.now l.old l.initial.out l.i l.out
