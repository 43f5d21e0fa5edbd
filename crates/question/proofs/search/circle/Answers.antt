use Rattle.plane.specs.Values.{pt}
use Rattle.question.proofs.TakenLaws.{circle_found}
use Rattle.question.proofs.search.circle.Goals as goal

-- `search::circle`: the walk over the circle's columns and rows. Assumes nothing.
pub returns : goal.returns
returns c =
    let s = c.args in
    λ a i. circle_found s.size s.cells.now i c.first_taken.result c.around.result (pt s.p) c.around-rows.result s.radius c.new-circle.result c.around.ensures c.around-rows.ensures c.new-circle.ensures (c.first_taken.ensures a)
