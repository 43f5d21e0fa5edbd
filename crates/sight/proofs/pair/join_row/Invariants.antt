use Rattle.sight.proofs.JoinLaws.{Row}
use Rattle.sight.proofs.pair.join_row.Given as goal

-- `pair::join_row`: the pairs up to the j-th point are written, from both ends. Assumes nothing.
abbrev pub invariant-loop-j : goal.invariant-loop-j
invariant-loop-j l = Row l.ground.size l.ground.radius l.proximity l.ground.cells.now l.changes.cells.now l.changes.full.now l.present.points.now l.present.words.now l.old l.i l.j l.initial.out l.out
