use Rattle.std.proofs.Common.{arith}
use Rattle.std.proofs.lemmas.Grind.{common_steps}
use lib.Ieee.{of_bits}
use Rattle.segment.proofs.spans.wide.Goals as goal

-- `spans::wide`: five comparisons, each yes. Assumes nothing.
pub returns-then-g : goal.returns-then-g
unfolding of_bits
returns-then-g c = grind (arith, common_steps)
