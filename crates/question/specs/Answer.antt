-- What a question finds: a cell, or none (RULES 2.4). Definitions only.
use Rattle.std.specs.Prelude as std
use Rattle.std.specs.Prelude.{ℕ, ℤ, Some, None}
use Rattle.std.proofs.Math.Option.{Option, none, some}
use Rattle.limits.specs.declared.cell.Cell.{Cell}
use Rattle.model.specs.Cell.{x_of, y_of}

-- a cell by its two coordinates, or none: the code's and the model's
abbrev pub placed : std.Option Cell → Option (ℤ × ℤ)
placed None = none
placed (Some c) = some (c.x, c.y)

abbrev pub cell_at : Option ℕ → Option (ℤ × ℤ)
cell_at none = none
cell_at (some k) = some (x_of k, y_of k)
