use Rattle.table.proofs.SearchLaws.{power_is}
use Rattle.table.proofs.look.power.Goals as goal

-- `look::power`: 2 ^ s is below 2 ^ 64. Assumes nothing.
pub returns : goal.returns
returns c = power_is c.args.s c.requires
