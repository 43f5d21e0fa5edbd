use Rattle.corner.proofs.WindowLaws.{Columns}
use Rattle.corner.proofs.window.window.Given as goal

-- `window::window`: one column of five after another, the last first. Assumes nothing.
abbrev pub invariant-loop-i : goal.invariant-loop-i
invariant-loop-i l = Columns l.t l.low l.bits l.i
