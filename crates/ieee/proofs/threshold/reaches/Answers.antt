use Rattle.ieee.proofs.RootBits.{no_nan_bits}
use Rattle.ieee.proofs.threshold.reaches.Goals as goal

-- `ieee::threshold::reaches` meets its contract. Assumes nothing.
pub float_from_bits-n : goal.float_from_bits-n
float_from_bits-n c = no_nan_bits c.args.n c.requires
