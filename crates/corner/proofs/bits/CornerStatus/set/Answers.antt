use Rattle.corner.specs.Weights.{dir}
use Rattle.corner.proofs.StatusLaws.{cleared_is, marked_is}
use Rattle.corner.proofs.bits.CornerStatus.set.Goals as goal

-- `CornerStatus::set`: the corner's bit cleared, and then set if wanted. Assumes nothing.
pub returns-then-on : goal.returns-then-on
returns-then-on c =
    λ b e. rw (c.bit-w.ensures, e, c.if-on.true) (marked_is (dir c.args.corner) b)

pub returns : goal.returns
returns c =
    λ b e. rw (c.bit-w.ensures, e, c.if-on.false) (cleared_is (dir c.args.corner) b)
