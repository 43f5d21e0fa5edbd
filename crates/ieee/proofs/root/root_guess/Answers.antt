use Rattle.std.proofs.Common.{◌+◌, ◌-◌, ◌*◌, ◌/◌, arith}
use Rattle.ieee.proofs.RootBits.{no_nan_bits}
use Rattle.ieee.proofs.root.root_guess.Goals as goal

-- `ieee::root::root_guess` meets its contract: the candidate is in range, and no step meets a NaN as a bit pattern. Assumes nothing.
pub float_from_bits-t : goal.float_from_bits-t
float_from_bits-t c = no_nan_bits ((1022 + c.args.p) * 4503599627370496 + c.args.v) (omega arith)

pub float_from_bits-x : goal.float_from_bits-x
float_from_bits-x c = no_nan_bits (6909647675743469568 - ((1022 + c.args.p) * 4503599627370496 + c.args.v) / 2) (omega arith)
