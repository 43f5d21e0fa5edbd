use Rattle.marks.proofs.RunLaws.{Made}
use Rattle.marks.proofs.run.mark_all.Given as goal

-- `run::mark_all`: cell by cell. Assumes nothing.
abbrev pub invariant-loop-i : goal.invariant-loop-i
invariant-loop-i l = Made l.candidates l.initial.moods l.moods l.corners.cells.now l.corners.statuses.now l.shift l.i
