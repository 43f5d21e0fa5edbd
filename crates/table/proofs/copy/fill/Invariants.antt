use Rattle.table.proofs.FillLaws.{Filling}
use Rattle.table.proofs.copy.fill.Given as goal

-- `copy::fill`: the first of them have the value. Assumes nothing.
abbrev pub invariant-loop-x : goal.invariant-loop-x
invariant-loop-x g l = Filling l.value l.initial.t l.t l.x-index
