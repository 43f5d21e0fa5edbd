-- Between functions: what a shape takes, by columns and rows, and what a test finds. Definitions only; proofs/TakenLaws.antt shows that they are the model's cells.
use Rattle.std.specs.Prelude.{ℕ, ◌≡◌, Bool, true, false, cond, ◌&&◌, List, ltb, drop, Float}
use Rattle.std.proofs.Math.Option.{Option, none, some}
use Rattle.std.specs.Float.{binary64}
use Rattle.std.specs.Float.Ieee.{add, sub, div}
use Rattle.model.specs.Cell.{col, row}
use Rattle.model.specs.Good.{Inside}
use Rattle.model.specs.Limits.{max_coordinate}
use Rattle.model.specs.Maps.{AscL, find}
use Rattle.model.specs.Shape as model
use Rattle.shape.specs.Bounds.{between, in_bounds}
use Rattle.shape.specs.Circle.{circle_meets}
use Rattle.shape.specs.Sweep.{strip, rows_of}
use Rattle.shape.specs.declared.bounds.Bounds.{Bounds}
use Rattle.shape.specs.declared.circle.Circle.{Circle}
use Rattle.shape.specs.declared.sweep.Strip.{Strip}
use Rattle.table.specs.Columns.{InColumn}
use Rattle.table.specs.Tables.{All}
use Rattle.question.specs.declared.search.Found.{Found}

-- ---- the model's answer, a cell's key or none; and the one struct that says the same, whose key is 0 where nothing is found
abbrev pub found : Found → model.Found
found f = record { cell = cond f.some (some f.key) none }

abbrev pub keyed : Option ℕ → Found
keyed none = record { some = false; key = 0 }
keyed (some k) = record { some = true; key = k }

abbrev pub found_as : model.Found → Found
found_as m = keyed m.cell

-- ---- what is promised of an ascending table: the first cell that p takes; the same of a column's cells; and a test's answer, where the cells are inside the limits
abbrev pub First : (ℕ → Bool) → List ℕ → Found → Type 0
First p l r = AscL 0 l → r ≡ keyed (find p l)

abbrev pub FirstIn : ℕ → (ℕ → Bool) → List ℕ → Found → Type 0
FirstIn x p l r = AscL 0 l → InColumn x l → r ≡ keyed (find p l)

abbrev pub Tested : List ℕ → model.Found → Found → Type 0
Tested l m r = AscL 0 l → All (Inside max_coordinate) l → r ≡ found_as m

-- ---- the columns, or rows, that a square of half the width d around z takes, for cells of size c
abbrev pub bounds_around : Float → Float → Float → Bounds
bounds_around c z d = between (div binary64 (sub binary64 z d) c) (div binary64 (add binary64 z d) c)

-- ---- what a shape takes of a column: a square the same rows everywhere, a circle the cells that it meets of the same rows, a swept strip rows of its own
pub data Shape : Type 0 where
  flat : Bounds → Shape
  round : Bounds → Circle → Shape
  swept : Strip → Float → Shape

-- the rows of column x, and whether a cell there passes
abbrev pub rows_at : Shape → ℕ → Bounds
rows_at (flat b) x = b
rows_at (round b g) x = b
rows_at (swept q c) x = rows_of c (strip q) x

abbrev pub passes : Shape → ℕ → Bool
passes (flat b) k = true
passes (round b g) k = circle_meets g k
passes (swept q c) k = true

-- of cells from the first row on, those below the row high
abbrev pub row_taken : ℕ → Shape → ℕ → Bool
row_taken high s k = ltb (row k) high && passes s k

-- of the cells of column x
abbrev pub column_taken : Shape → ℕ → ℕ → Bool
column_taken s x k = in_bounds (rows_at s x) (row k) && passes s k

-- of all cells
abbrev pub taken : Bounds → Shape → ℕ → Bool
taken columns s k = in_bounds columns (col k) && column_taken s (col k) k

-- of the cells from the first column on: those below the column high
abbrev pub below : ℕ → Shape → ℕ → Bool
below high s k = ltb (col k) high && column_taken s (col k) k

-- a walk is at place i: the first cell that is taken of the table is the first from there on
abbrev pub Left : Bounds → Shape → List ℕ → ℕ → Type 0
Left columns s l i = AscL 0 l → find (taken columns s) l ≡ find (below columns.high s) (drop i l)
