use Prim.Native.Nat.{◌<◌}
use Rattle.table.proofs.SearchLaws.{Within}
use Rattle.table.proofs.place.place.Given as goal

-- `place::place`: with each look the place is known twice as well. Assumes nothing.
abbrev pub invariant-loop-s : goal.invariant-loop-s
invariant-loop-s l = (l.s < 64) × Within l.k l.t l.at l.s
