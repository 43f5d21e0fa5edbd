use Prim.Native.Nat.{◌+◌, ◌*◌, ◌<◌}
use Rattle.model.specs.Cell.{W}
use Rattle.table.specs.Search.{Each}
use Rattle.table.proofs.SearchLaws.{Within}
use Rattle.table.proofs.places.places_from.Given as goal

-- `places::places_from`: with each look each place is known twice as well. Assumes nothing.
abbrev pub invariant-loop-s : goal.invariant-loop-s
invariant-loop-s l = (l.s < 64) × Each (λ i at. Within (l.low + i * W) l.t at l.s) l.f
