use native.Mathlib.Omega.{arith}
use Rattle.table.proofs.SearchLaws.{exponent_is}
use Rattle.table.proofs.look.exponent.Goals as goal

-- `look::exponent`: the place of the highest digit. Assumes nothing.
pub overflow_cast-result : goal.overflow_cast-result
overflow_cast-result c = let z = exponent_is c.args.n c.requires c.ranges.n.fits in omega arith

pub overflow_sub-result : goal.overflow_sub-result
overflow_sub-result c = let z = exponent_is c.args.n c.requires c.ranges.n.fits in omega arith

pub returns : goal.returns
returns c = let z = exponent_is c.args.n c.requires c.ranges.n.fits in (omega arith, z.1, z.2)
