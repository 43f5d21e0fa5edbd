-- What a batch does to the cells around it, as the corner changes need it. Definitions only.
use Rattle.std.specs.Prelude.{ℕ, ◌+◌, ◌*◌, ◌^◌, ◌≤◌, ◌<◌, ◌≡◌, not, List, [], ◌∷◌, length}
use Rattle.std.specs.Bool.{beq}
use Rattle.model.specs.Cell.{W}
use Rattle.model.specs.Corner.{Bits, corner_cells, number}
use Rattle.model.specs.Maps.{AscL, has}
use Rattle.table.specs.Listed.{Listed}
use Rattle.table.specs.Tables.{All}

-- C' is C with the cells of K toggled: occupied where they were free, free where they were occupied
abbrev pub Toggled : List ℕ → List ℕ → List ℕ → Type 0
Toggled C K C' = (k : ℕ) → has k C' ≡ not (beq (has k C) (has k K))

-- two cells further in every direction are keys too
abbrev pub Inner : ℕ → Type 0
Inner k = (2 * W + 2 ≤ k) × (k + (2 * W + 2) < 2 ^ 64)

-- statuses by the paper's numbers
abbrev pub numbered : List (ℕ × Bits) → List (ℕ × ℕ)
numbered [] = []
numbered (e ∷ l) = (e.0, number e.1) ∷ numbered l

-- the corner cells of an ascending table u are listed, with their statuses
abbrev pub Cornered : List ℕ → List ℕ → List ℕ → List ℕ → List ℕ → ℕ → Type 0
Cornered u out out' statuses statuses' r =
    AscL 0 u → All Inner u → length u ≤ length out → length u ≤ length statuses → Listed (numbered (corner_cells u)) out out' statuses statuses' r
