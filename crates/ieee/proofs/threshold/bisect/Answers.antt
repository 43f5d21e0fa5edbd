use Rattle.ieee.proofs.Tools.{T_true}
use Rattle.ieee.proofs.Thresholds.{search_ends}
use Rattle.ieee.proofs.threshold.bisect.Goals as goal

pub loop-lo-init : goal.loop-lo-init
loop-lo-init c = search_ends c.args.b (T_true c.well_formed.0.1) c.requires
