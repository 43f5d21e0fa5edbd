use Rattle.sight.proofs.JoinLaws.{Rows}
use Rattle.sight.proofs.pair.join_pairs.Given as goal

-- `pair::join_pairs`: the rows before the i-th are written. Assumes nothing.
abbrev pub invariant-loop-i : goal.invariant-loop-i
invariant-loop-i l = Rows l.ground.size l.ground.radius l.proximity l.ground.cells.now l.changes.cells.now l.changes.full.now l.present.points.now l.present.words.now l.old l.i l.initial.out l.out
