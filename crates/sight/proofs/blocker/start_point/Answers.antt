use Rattle.model.specs.Map.{tests}
use Rattle.sight.proofs.PointLaws.{start_new, start_old, start_past}
use Rattle.sight.proofs.blocker.start_point.Goals as goal

-- `blocker::start_point`: the square test for a new point, and else the old blocker. Assumes nothing.
pub returns-then-at-eq0 : goal.returns-then-at-eq0
returns-then-at-eq0 c =
    let s = c.args in
    λ B w a i o e. start_new (tests s.ground.size s.ground.radius) s.ground.cells.now B s.k w s.was e c.square_at.result c.if-at-eq0.true (c.square_at.ensures a i)

pub returns-then-at-old : goal.returns-then-at-old
returns-then-at-old c =
    let s = c.args in
    λ B w a i o e. start_old (tests s.ground.size s.ground.radius) s.ground.cells.now B s.k w s.was e s.old.now o c.if-at-eq0.false

pub returns : goal.returns
returns c =
    let s = c.args in
    λ B w a i o e. start_past (tests s.ground.size s.ground.radius) s.ground.cells.now B s.k w s.was e s.old.now o c.if-at-old.false
