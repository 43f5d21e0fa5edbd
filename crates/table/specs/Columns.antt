-- Between functions: a column of keys, and its rows from one on (sparse_grid.rs, `occupancy_map`: each column with the set of its rows). Definitions only.
use Rattle.std.specs.Prelude.{ℕ, ◌≡◌, List, eqb, leb}
use Rattle.model.specs.Cell.{col, row}
use Rattle.model.specs.Maps.{sift}
use Rattle.table.specs.Tables.{All}

abbrev pub InColumn : ℕ → List ℕ → Type 0
InColumn x l = All (λ k. col k ≡ x) l

-- the keys of column x
abbrev pub column_of : ℕ → List ℕ → List ℕ
column_of x l = sift (λ k. eqb (col k) x) l

-- the keys whose row is at least y
abbrev pub rows_from : ℕ → List ℕ → List ℕ
rows_from y l = sift (λ k. leb y (row k)) l
