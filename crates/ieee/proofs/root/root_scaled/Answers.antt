use Rattle.ieee.proofs.RootScaled.{scaled_bits, scaled_root}
use Rattle.ieee.proofs.RootBits.{no_nan_bits}
use Rattle.ieee.proofs.root.root_scaled.Goals as goal

-- `ieee::root::root_scaled` meets its contract. The laws are in `proofs/RootScaled.antt`. Assumes nothing.
pub float_from_bits-result : goal.float_from_bits-result
float_from_bits-result c = no_nan_bits _ (scaled_bits c.args.v c.args.g c.root_checked-r.result c.requires c.root_checked-r.ensures)

pub returns : goal.returns
returns c = scaled_root c.args.v c.args.g c.root_checked-r.result c.requires c.root_checked-r.ensures
