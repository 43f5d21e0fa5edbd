use lib.Ieee.{of_bits}
use Rattle.plane.specs.Values.{pt}
use Rattle.question.proofs.TakenLaws.{square_found}
use Rattle.question.proofs.search.square.Goals as goal

-- `search::square`: the walk over the square's columns and rows. Assumes nothing.
pub returns : goal.returns
unfolding of_bits
returns c =
    let s = c.args in
    λ a i. square_found s.size s.cells.now i c.first_taken.result c.around.result (pt s.p) c.around-rows.result s.width c.around.ensures c.around-rows.ensures (c.first_taken.ensures a)
