use mathlib.Core.Path.{◌≡◌}
use lib.ListN.{drop}
use Rattle.model.specs.Maps.{find}
use Rattle.shape.specs.declared.bounds.Bounds.{Bounds}
use Rattle.question.specs.Walk.{round, row_taken}
use Rattle.question.proofs.walk.first_met.Given as goal

-- `walk::first_met`: what is left of the column has the same first cell. Assumes nothing.
abbrev pub invariant-loop-k : goal.invariant-loop-k
invariant-loop-k l = (b : Bounds) → find (row_taken l.high (round b l.circle)) l.rows ≡ find (row_taken l.high (round b l.circle)) (drop l.k-index l.rows)
