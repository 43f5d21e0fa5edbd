use Rattle.marks.proofs.PointsLaws.{keys_many, keys_few}
use Rattle.marks.proofs.points.mark_keys.Goals as goal

pub returns-then-count-gt-POINTS : goal.returns-then-count-gt-POINTS
returns-then-count-gt-POINTS c =
    let a = c.args in
    λ ps changed M ro rt o e.
    keys_many a.shift ps changed a.points.cells.now a.points.statuses.now a.corners.cells.now a.corners.statuses.now M a.candidates.now c.begin.new.moods c.mark_all.new.moods o e c.begin.ensures c.mark_all.ensures.1 c.count.result c.count.ensures c.if-count-gt-POINTS.true a.out.now a.told.now

pub returns : goal.returns
returns c =
    let a = c.args in
    λ ps changed M ro rt o e.
    keys_few a.shift ps changed a.points.cells.now a.points.statuses.now a.corners.cells.now a.corners.statuses.now M a.candidates.now c.begin.new.moods c.mark_all.new.moods o e c.begin.ensures c.mark_all.ensures.1 c.count.result c.count.ensures c.if-count-gt-POINTS.false
    a.out.now c.pick.new.out a.told.now c.pick.new.told c.pick.result ro rt c.pick.ensures
