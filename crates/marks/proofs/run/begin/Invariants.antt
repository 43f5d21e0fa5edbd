use Rattle.marks.proofs.BeginLaws.{Begun}
use Rattle.marks.proofs.run.begin.Given as goal

-- `run::begin`: key by key. Assumes nothing.
abbrev pub invariant-loop-i : goal.invariant-loop-i
invariant-loop-i l = Begun l.points.cells.now l.points.statuses.now l.candidates l.initial.moods l.moods l.i
