use Rattle.std.proofs.Common.{arith}
use Rattle.marks.proofs.PointsLaws.{gathered_many, gathered_few, sizes}
use Rattle.marks.proofs.points.mark_points.Goals as goal
use Rattle.marks.proofs.points.mark_points.Goals.{then-shift-gt-MOST_SHIFT-via-then-shift-gt-MOST_SHIFT, then-shift-gt-MOST_SHIFT-via-else-shift-gt-MOST_SHIFT+then-points-gt-POINTS, then-shift-gt-MOST_SHIFT-via-else-shift-gt-MOST_SHIFT+else-points-gt-POINTS+then-corners-gt-CORNERS, then-points-via-then-points, then-points-via-else-points+then-corners}

pub returns-then-shift-gt-MOST_SHIFT : goal.returns-then-shift-gt-MOST_SHIFT
returns-then-shift-gt-MOST_SHIFT c =
    let a = c.args in
    λ ps changed M ro rt.
    let z = sizes a.shift ps changed a.points.cells.now a.points.statuses.now a.corners.cells.now a.corners.statuses.now M in
    absurd (elim c.then-shift-gt-MOST_SHIFT.branch [
      | then-shift-gt-MOST_SHIFT-via-then-shift-gt-MOST_SHIFT w ↦ omega (arith, z.0)
      | then-shift-gt-MOST_SHIFT-via-else-shift-gt-MOST_SHIFT+then-points-gt-POINTS w ↦ omega (arith, z.1)
      | then-shift-gt-MOST_SHIFT-via-else-shift-gt-MOST_SHIFT+else-points-gt-POINTS+then-corners-gt-CORNERS w ↦ omega (arith, z.3)
    ])

pub returns-then-points : goal.returns-then-points
returns-then-points c =
    let a = c.args in
    λ ps changed M ro rt.
    let z = sizes a.shift ps changed a.points.cells.now a.points.statuses.now a.corners.cells.now a.corners.statuses.now M in
    absurd (elim c.then-points.branch [ then-points-via-then-points w ↦ omega (arith, z.2) | then-points-via-else-points+then-corners w ↦ omega (arith, z.4) ])

pub returns-then-n-gt-CANDIDATES : goal.returns-then-n-gt-CANDIDATES
returns-then-n-gt-CANDIDATES c =
    let g = c.gather-n in
    let a = c.args in
    λ ps changed M ro rt.
    gathered_many a.shift ps changed a.points.cells.now a.points.statuses.now a.corners.cells.now a.corners.statuses.now M c.copy.new.to g.new.candidates c.copy.ensures g.result g.ensures c.if-n-gt-CANDIDATES.true a.out.now a.told.now

pub returns : goal.returns
returns c =
    let g = c.gather-n in
    let a = c.args in
    λ ps changed M ro rt.
    let w = gathered_few a.shift ps changed a.points.cells.now a.points.statuses.now a.corners.cells.now a.corners.statuses.now M c.copy.new.to g.new.candidates c.copy.ensures g.result g.ensures c.if-n-gt-CANDIDATES.false in
    c.mark_keys.ensures ps changed M ro rt w.0 w.1
