use Prim.Native.Nat.{◌+◌, ◌*◌}
use Rattle.model.specs.Cell.{W}
use Rattle.table.specs.Search.{begun}
use Rattle.table.proofs.FiveLaws.{Five}
use Rattle.table.proofs.places.begin_all.Given as goal

-- `places::begin_all`: the first i of them. Assumes nothing.
abbrev pub invariant-loop-i : goal.invariant-loop-i
invariant-loop-i l = Five (λ j. begun l.t l.p (l.low + j * W)) l.initial.f l.f l.i
