-- What a floor's lent table holds. Definitions only.
use Rattle.std.specs.Prelude.{ℕ, ◌≤◌, ◌≡◌, List, ◌++◌, length, drop}
use Rattle.model.specs.Good.{Inside}
use Rattle.model.specs.Limits.{max_cells, max_coordinate}
use Rattle.model.specs.Maps.{AscL}
use Rattle.table.specs.Tables.{All, pad}

-- the table t, of which n places are used, holds the cells C: ascending, within the batch coordinates, the unused rest, up to the fixed need, zero
pub record Holds (t : List ℕ) (n : ℕ) (C : List ℕ) : Type 0 where
  pub table : t ≡ pad max_cells C ++ drop max_cells t
  pub count : n ≡ length C
  pub room : length C ≤ max_cells
  pub order : AscL 0 C
  pub inside : All (Inside max_coordinate) C
