use Rattle.corner.proofs.StatusLaws.{any_is}
use Rattle.corner.proofs.bits.CornerStatus.is_corner.Goals as goal

-- `CornerStatus::is_corner`: only a status with no bit is 0. Assumes nothing.
pub returns : goal.returns
returns c = λ b e. rw e (any_is b)
