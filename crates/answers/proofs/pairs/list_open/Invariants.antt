use Rattle.answers.proofs.PairLaws.{OpenTo}
use Rattle.answers.proofs.pairs.list_open.Given as goal

-- `pairs::list_open`: row by row, but for the rows of blocked points. Assumes nothing.
abbrev pub invariant-loop-i : goal.invariant-loop-i
invariant-loop-i l = OpenTo l.points l.blockers l.pairs l.n l.i l.initial.lesser l.lesser l.initial.greater l.greater
