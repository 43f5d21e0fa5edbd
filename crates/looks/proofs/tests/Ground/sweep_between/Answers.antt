use lib.Ieee.{of_bits}
use Rattle.plane.specs.Values.{pt}
use Rattle.looks.proofs.TestLaws.{sweep_key}
use Rattle.looks.proofs.tests.Ground.sweep_between.Goals as goal

-- `tests::Ground::sweep_between`: the search along the way between the centres. Assumes nothing.
pub returns : goal.returns
unfolding of_bits
returns c =
    let g = c.args.self in
    λ a i. sweep_key g.size g.radius g.cells.now c.args.p c.args.q (pt c.centre-start.result) (pt c.centre-end.result) c.search.result c.centre-start.ensures c.centre-end.ensures (c.search.ensures a i)
