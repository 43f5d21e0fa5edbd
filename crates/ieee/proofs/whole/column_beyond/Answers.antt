use Rattle.std.proofs.Common.{sym}
use lib.Ieee.{of_bits}
use Rattle.ieee.proofs.Picks.{is_nan_lem, no_nan}
use Rattle.ieee.proofs.Columns.{beyond_low, beyond_none, beyond_high}
use Rattle.ieee.proofs.whole.column_beyond.Goals as goal

-- `ieee::whole::column_beyond` meets its contract: each arm returns what the tests pick. Assumes nothing.
pub returns-then-x : goal.returns-then-x
unfolding of_bits
returns-then-x c = sym (beyond_low c.args.x c.if-x.true)

pub returns-then-x-2 : goal.returns-then-x-2
unfolding of_bits
returns-then-x-2 c = let x = c.args.x in sym (beyond_none x c.if-x.false (is_nan_lem x c.if-x-2.true))

pub returns : goal.returns
unfolding of_bits
returns c = let x = c.args.x in sym (beyond_high x c.if-x.false (no_nan x c.if-x-2.false))
