use Rattle.model.specs.Shape.{sides, sides_at}
use Rattle.shape.specs.Sweep.{met, strip}
use Rattle.shape.proofs.SweepLaws.{sides_met}
use Rattle.shape.proofs.sweep.Strip.with_sides.Goals as goal

-- `Strip::with_sides` takes all four, at one line and at the other. Assumes nothing.
pub returns : goal.returns
returns c =
    let a = c.args in
    let q = strip a.self in
    rw (
      c.with_side-8.ensures,
      c.with_side-7.ensures,
      c.with_side-6.ensures,
      c.with_side-5.ensures,
      c.with_side-4.ensures,
      c.with_side-3.ensures,
      c.with_side-2.ensures,
      c.with_side.ensures,
      sides_met a.h q a.left,
    )
    (sides_met (met a.h (sides_at (sides q) a.left)) q a.right)
