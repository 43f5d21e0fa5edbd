use Prim.Native.Nat.{◌+◌, ◌*◌, ◌^◌}
use lib.ListN.{get_or}
use Rattle.model.specs.Cell.{W}
use Rattle.table.specs.Search.{looked}
use Rattle.table.proofs.FiveLaws.{Five}
use Rattle.table.proofs.places.look_all.Given as goal

-- `places::look_all`: the first i of them, and the others as they were. Assumes nothing.
abbrev pub invariant-loop-i : goal.invariant-loop-i
invariant-loop-i l = Five (λ j. looked l.t (get_or l.initial.f j 0) (2 ^ l.s) (l.low + j * W)) l.initial.f l.f l.i
