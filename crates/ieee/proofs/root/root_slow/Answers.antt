use Rattle.ieee.proofs.RootChecked.{rounded_slow}
use Rattle.ieee.proofs.root.root_slow.Goals as goal

-- `ieee::root::root_slow` meets its contract. Assumes nothing.
pub returns : goal.returns
returns c = rounded_slow c.args.m c.root_bits.result c.requires.0 c.root_bits.ensures
