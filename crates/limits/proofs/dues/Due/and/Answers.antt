use Rattle.limits.proofs.RefusalLaws.{number_fits}
use Rattle.limits.proofs.dues.Due.and.Goals as goal

-- `Due::and`: the number of a refusal has a bit of its own. Assumes nothing.
pub returns : goal.returns
returns c = rw (c.number.ensures, number_fits c.args.refusal) at c.due.ensures
