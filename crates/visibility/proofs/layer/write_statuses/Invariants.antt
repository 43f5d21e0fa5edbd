use Rattle.visibility.proofs.RedrawLaws.{Writing}
use Rattle.visibility.proofs.layer.write_statuses.Given as goal

-- `layer::write_statuses`: the first i are written. Assumes nothing.
abbrev pub invariant-loop-i : goal.invariant-loop-i
invariant-loop-i l = Writing l.moods l.initial.out l.out l.i
