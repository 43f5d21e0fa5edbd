use Rattle.std.proofs.Common.{◌-◌}
use Rattle.ieee.specs.ThresholdSteps.{Between}
use Rattle.ieee.proofs.threshold.bisect.Given as goal

-- `ieee::threshold::bisect` meets its contract. The loop's invariant: the root at `lo` is not at least b, and the one at `hi` is. Assumes nothing.
abbrev pub invariant-loop-lo : goal.invariant-loop-lo
invariant-loop-lo l = Between l.b l.lo l.hi

abbrev pub decreases-loop-lo : goal.decreases-loop-lo
decreases-loop-lo l = l.hi - l.lo
