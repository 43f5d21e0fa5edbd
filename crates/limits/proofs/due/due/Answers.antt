use mathlib.Core.Path.{sym}
use lib.Bits.{or_zero_r}
use Rattle.limits.proofs.due.due.Goals as goal

-- `due::due`: the bit of the number is added, or nothing. Assumes nothing.
pub returns : goal.returns
returns c = rw c.if-is.false (sym (or_zero_r c.args.others))
