use Prim.Native.Nat.{◌-◌}
use lib.ListN.{length}
use Rattle.table.proofs.DoublingLaws.{Doubled}
use Rattle.table.proofs.column.place_from.Given as goal

-- `column::place_from`: the stretch that doubles ends at or after the place that is looked for. Assumes nothing.
abbrev pub invariant-loop-n : goal.invariant-loop-n
invariant-loop-n l = Doubled l.k l.t l.at l.n

abbrev pub decreases-loop-n : goal.decreases-loop-n
decreases-loop-n l = length l.t - l.at
