-- Between functions: what a test between centres finds, as a number of the tables. Definitions only.
use Rattle.std.specs.Prelude.{ℕ, ◌≡◌, List}
use Rattle.model.specs.Good.{Inside}
use Rattle.model.specs.Limits.{max_coordinate}
use Rattle.model.specs.Maps.{AscL}
use Rattle.model.specs.Shape.{Found}
use Rattle.table.specs.Tables.{All}
use Rattle.held.specs.Codes.{block_code}

-- r tells what was found in an ascending table of cells that are inside the limits; of other tables nothing is promised
abbrev pub Tells : List ℕ → Found → ℕ → Type 0
Tells l f r = AscL 0 l → All (Inside max_coordinate) l → r ≡ block_code f.cell
