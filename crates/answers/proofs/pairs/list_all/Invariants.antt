use Rattle.answers.proofs.PairLaws.{AllTo}
use Rattle.answers.proofs.pairs.list_all.Given as goal

-- `pairs::list_all`: row by row. Assumes nothing.
abbrev pub invariant-loop-i : goal.invariant-loop-i
invariant-loop-i l = AllTo l.points l.pairs l.n l.i l.initial.lesser l.lesser l.initial.greater l.greater l.initial.blocks l.blocks
