use Rattle.std.proofs.Common.{rules}
use lib.Ieee.{of_bits}
use Rattle.ieee.specs.Yard.{centre_f}
use Rattle.numbers_c.proofs.cells.middle_of.Goals as goal

-- `middle_of` takes the float steps of a centre. Assumes nothing.
pub returns : goal.returns
unfolding centre_f of_bits
returns c = search rules
