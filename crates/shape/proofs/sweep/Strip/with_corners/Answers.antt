use Rattle.shape.specs.Sweep.{strip}
use Rattle.shape.proofs.SweepLaws.{corners_met}
use Rattle.shape.proofs.sweep.Strip.with_corners.Goals as goal

-- `Strip::with_corners` takes all four. Assumes nothing.
pub returns : goal.returns
returns c =
    let a = c.args in
    rw (c.with_corner-4.ensures, c.with_corner-3.ensures, c.with_corner-2.ensures, c.with_corner.ensures) (corners_met a.h (strip a.self) a.left a.right)
