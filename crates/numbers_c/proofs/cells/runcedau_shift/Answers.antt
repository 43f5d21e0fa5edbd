use Rattle.std.proofs.Common.{rules}
use lib.Ieee.{of_bits, odd}
use Rattle.ieee.specs.Yard.{shift_f}
use Rattle.numbers_c.proofs.cells.runcedau_shift.Goals as goal

-- `runcedau_shift` is the ceiling of the quotient and a half. Assumes nothing.
pub returns : goal.returns
unfolding of_bits odd shift_f
returns c = search rules
