use Rattle.corner.proofs.CellsLaws.{CornersTo}
use Rattle.corner.proofs.cells.corner_cells.Given as goal

-- `cells::corner_cells`: one cell after another, written where its status is not 0. Assumes nothing.
abbrev pub invariant-loop-k : goal.invariant-loop-k
invariant-loop-k l = CornersTo l.cells l.initial.out l.out l.initial.statuses l.statuses l.n l.k-index
