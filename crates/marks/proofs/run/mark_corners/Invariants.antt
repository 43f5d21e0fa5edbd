use Rattle.marks.proofs.RunLaws.{Four}
use Rattle.marks.proofs.run.mark_corners.Given as goal

-- `run::mark_corners`: the four marks one after another. Assumes nothing.
abbrev pub invariant-loop-d : goal.invariant-loop-d
invariant-loop-d l = Four l.candidates l.initial.moods l.moods l.k l.status l.shift l.n l.d
