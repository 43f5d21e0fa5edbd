use Rattle.limits.proofs.WordLaws.{none_first}
use Rattle.limits.proofs.dues.Due.first.Goals as goal

-- `Due::first`: of the word 0 nothing is due. Assumes nothing.
pub returns-then-self-eq0 : goal.returns-then-self-eq0
returns-then-self-eq0 c = rw c.if-self-eq0.true none_first
