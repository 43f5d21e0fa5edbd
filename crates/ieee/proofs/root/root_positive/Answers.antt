use Rattle.std.proofs.Common.{arith}
use Rattle.ieee.specs.RootSteps.{bit_units}
use Rattle.ieee.proofs.RootScaled.{zeros_range, moved_scaled, moved_value, normal_value}
use Rattle.ieee.proofs.root.root_positive.Goals as goal

-- `ieee::root::root_positive` meets its contract. The laws are in `proofs/RootScaled.antt`. Assumes nothing.
pub overflow_sub-z : goal.overflow_sub-z
overflow_sub-z c = let z = zeros_range c.args.b c.requires.0 c.if-b-lt4503599627370496.true in omega arith

pub root_scaled-requires : goal.root_scaled-requires
root_scaled-requires c = moved_scaled c.args.b c.requires.0 c.if-b-lt4503599627370496.true

pub returns-then-b-lt4503599627370496 : goal.returns-then-b-lt4503599627370496
returns-then-b-lt4503599627370496 c = let b = c.args.b in c.root_scaled.ensures (bit_units b) (moved_value b c.requires.0 c.if-b-lt4503599627370496.true)

pub returns : goal.returns
returns c = let b = c.args.b in c.root_scaled-2.ensures (bit_units b) (normal_value b c.if-b-lt4503599627370496.false)
