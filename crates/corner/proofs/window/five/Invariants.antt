use Rattle.corner.proofs.RowLaws.{Row}
use Rattle.corner.proofs.window.five.Given as goal

-- `window::five`: the place of each key follows from the place of the one before it. Assumes nothing.
abbrev pub invariant-loop-j : goal.invariant-loop-j
invariant-loop-j l = Row l.t l.base l.at l.bits l.j
