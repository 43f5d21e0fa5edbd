use Rattle.answers.proofs.RowLaws.{OpenRowTo}
use Rattle.answers.proofs.pairs.open_row.Given as goal

-- `pairs::open_row`: each later point in turn, written where the pair is open and nothing blocks that point. Assumes nothing.
abbrev pub invariant-loop-j : goal.invariant-loop-j
invariant-loop-j l = OpenRowTo l.points l.blockers l.pairs l.i l.count l.n l.j l.initial.lesser l.lesser l.initial.greater l.greater
