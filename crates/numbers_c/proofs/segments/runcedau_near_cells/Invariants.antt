use Rattle.std.proofs.Common.{◌≡◌}
use Rattle.table.proofs.Front.{mix}
use Rattle.segment.specs.Many.{prepared}
use Rattle.numbers_c.proofs.CellsLaws.{answers}
use Rattle.numbers_c.proofs.segments.runcedau_near_cells.Given as goal

-- `runcedau_near_cells`: after so many turns as many answers stand, and behind them what was there. Assumes nothing.
abbrev pub invariant-loop-i : goal.invariant-loop-i
invariant-loop-i l = l.near ≡ mix (answers (prepared l.test) l.cells) l.initial.near l.i
