use Rattle.views.proofs.AroundLaws.{goes_is}
use Rattle.views.proofs.neighbours.ReachTest.keeps.Goals as goal

-- `Reach::keeps`: the sweep is free where the number that it found is 0. Assumes nothing.
pub returns : goal.returns
returns c =
    let m = c.args.self.now.ground in
    λ u v. goes_is m.size m.radius m.cells.now c.args.self.now.k (u, v) c.args.x c.sweep_between.result c.sweep_between.ensures
