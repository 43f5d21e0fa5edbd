use Rattle.std.proofs.Common.{◌≡◌}
use Rattle.table.proofs.Front.{mix}
use Rattle.answers.proofs.list.list.Given as goal

-- `list::list`: the first i are written. Assumes nothing.
abbrev pub invariant-loop-i : goal.invariant-loop-i
invariant-loop-i g l = l.out ≡ mix l.entries l.initial.out l.i
