use Rattle.std.proofs.Common.{length}
use Rattle.marks.proofs.EndingLaws.{Picked}
use Rattle.marks.proofs.points.pick.Given as goal

-- `points::pick`: key by key. Assumes nothing.
abbrev pub invariant-loop-k : goal.invariant-loop-k
invariant-loop-k l = Picked l.candidates l.moods l.initial.out l.out l.initial.told l.told l.n (length l.yielded)
