use Rattle.answers.proofs.RowLaws.{RowTo}
use Rattle.answers.proofs.pairs.list_row.Given as goal

-- `pairs::list_row`: each later point in turn, written where there is a pair. Assumes nothing.
abbrev pub invariant-loop-j : goal.invariant-loop-j
invariant-loop-j l = RowTo l.points l.pairs l.i l.count l.n l.j l.initial.lesser l.lesser l.initial.greater l.greater l.initial.blocks l.blocks
