-- Between functions: the number of blocks of some cells; of more than a map can have it counts none (RULES 1.2). Definitions only.
use Rattle.std.specs.Prelude.{ℕ, ◌≤◌, ◌<◌, ◌≡◌, List, length}
use Rattle.model.specs.Blocks.{block_count}
use Rattle.model.specs.Limits.{max_cells}
use Rattle.model.specs.Maps.{AscL}

abbrev pub Counted : List ℕ → ℕ → Type 0
Counted C r = (max_cells < length C → r ≡ 0) × (length C ≤ max_cells → AscL 0 C → r ≡ block_count C)
