use Rattle.marks.proofs.GatherLaws.{Put}
use Rattle.marks.proofs.gather.put_corners.Given as goal

-- `gather::put_corners`: the four marks one after another. Assumes nothing.
abbrev pub invariant-loop-corner : goal.invariant-loop-corner
invariant-loop-corner l = Put l.initial.candidates l.candidates l.n l.used l.corner-index l.k l.status l.shift
