use lib.Ieee.{of_bits}
use Rattle.plane.specs.Values.{pt}
use Rattle.looks.proofs.TestLaws.{square_key}
use Rattle.looks.proofs.tests.Ground.square_at.Goals as goal

-- `tests::Ground::square_at`: the search around the centre. Assumes nothing.
pub returns : goal.returns
unfolding of_bits
returns c =
    let g = c.args.self in
    λ a i. square_key g.size g.radius g.cells.now c.args.k (pt c.centre.result) c.search.result c.centre.ensures (c.search.ensures a i)
