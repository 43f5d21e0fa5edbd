use Rattle.corner.specs.Weights.{dir}
use Rattle.corner.proofs.StatusLaws.{got_is}
use Rattle.corner.proofs.bits.CornerStatus.get.Goals as goal

-- `CornerStatus::get`: the corner's bit is set. Assumes nothing.
pub returns : goal.returns
returns c = λ b e. rw (c.bit.ensures, e) (got_is (dir c.args.corner) b)
