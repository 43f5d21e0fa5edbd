use Rattle.std.proofs.Common.{map}
use Rattle.std.specs.Map.Iter.{deref_pair}
use Rattle.sight.specs.Run.{Ran}
use Rattle.sight.proofs.run.run.Given as goal

-- `run::run`: the changes so far have made `block` of `start`. Assumes nothing.
abbrev pub invariant-loop-c : goal.invariant-loop-c
invariant-loop-c g l = Ran (goal.M-post g l.fn.meets) (goal.A-post g l.fn.again) (map deref_pair l.yielded) l.start l.block
