use Rattle.corner.proofs.ChangeLaws.{Sofar}
use Rattle.corner.proofs.changes.corner_changes.Given as goal

-- `changes::corner_changes`: what each confirmed cell adds, one after another. Assumes nothing.
abbrev pub invariant-loop-i : goal.invariant-loop-i
invariant-loop-i l = Sofar l.cells l.confirmed l.initial.out l.out l.initial.statuses l.statuses l.n l.i
