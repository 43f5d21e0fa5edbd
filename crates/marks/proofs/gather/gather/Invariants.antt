use Rattle.std.proofs.Common.{length}
use Rattle.marks.proofs.GatherLaws.{Gathered}
use Rattle.marks.proofs.gather.gather.Given as goal

-- `gather::gather`: cell by cell, until all are looked at or there are too many keys. Assumes nothing.
abbrev pub invariant-loop-k : goal.invariant-loop-k
invariant-loop-k l = Gathered l.initial.candidates l.candidates l.corners.cells.now l.corners.statuses.now l.n l.used (length l.yielded) l.shift
