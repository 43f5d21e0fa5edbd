use lib.ListN.{get_or, length}
use Rattle.answers.proofs.KeepLaws.{Kept}
use Rattle.answers.proofs.keep.keep.Given as goal

-- `keep::keep`: of the entries so far. Assumes nothing.
abbrev pub invariant-loop-i : goal.invariant-loop-i
invariant-loop-i g l = Kept (λ i r. g.T.Test.says l.test i (length l.entries) (get_or l.entries i 0) r) l.entries l.initial.out l.out l.n l.i
