use Rattle.std.proofs.Common.{arith}
use Rattle.std.proofs.lemmas.Grind.{common_steps}
use lib.Ieee.{neg, of_bits}
use Rattle.segment.proofs.spans.small.Goals as goal

-- `spans::small`: both comparisons were yes. Assumes nothing.
pub returns-then-x : goal.returns-then-x
unfolding of_bits neg
returns-then-x c = grind (arith, common_steps)

pub returns-else-x : goal.returns-else-x
unfolding of_bits neg
returns-else-x c = grind (arith, common_steps)
