use native.Mathlib.Omega.{arith}
use Rattle.plane.specs.Values.{pt}
use Rattle.question.proofs.TakenLaws.{column_small, point_found}
use Rattle.question.proofs.search.point.Goals as goal

-- `search::point`: the point's cell is looked up. Assumes nothing.
pub overflow_mul-k : goal.overflow_mul-k
overflow_mul-k c =
    let s = c.args in
    let h = column_small s.size s.p.x c.column_of.result c.column_of.ensures in
    omega arith

pub overflow_add-k : goal.overflow_add-k
overflow_add-k c =
    let s = c.args in
    let h = column_small s.size s.p.x c.column_of.result c.column_of.ensures in
    let k = column_small s.size s.p.y c.column_of-2.result c.column_of-2.ensures in
    omega arith

pub returns : goal.returns
returns c =
    let s = c.args in
    λ a. point_found s.size s.cells.now (pt s.p) c.column_of.result c.column_of-2.result c.column_of.ensures c.column_of-2.ensures c.only.result c.contains.result (c.contains.ensures a) c.only.ensures
