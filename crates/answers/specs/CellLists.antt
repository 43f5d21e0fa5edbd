-- What is asked of a map's cells, as calls: the refusal that is due, the map that is held, and the answer (RULES 2.2; sparse_grid.rs, `is_occupied`, `occupied_cells`, `corners`). Definitions only.
use Rattle.std.specs.Prelude.{ℕ, ◌≡◌, List, [], ◌∷◌, ℤ, length}
use Rattle.answers.specs.Asking.{HoldsSome, Listing, Output, refuse_map}
use Rattle.answers.specs.declared.judge.Count.{Count}
use Rattle.corner.specs.Changes.{numbered}
use Rattle.model.specs.Answers.{corners, occupied_cells}
use Rattle.model.specs.Limits.{max_cells, need_cells}
use Rattle.model.specs.Map as model
use Rattle.model.specs.Maps.{keys}
use Rattle.model.specs.Refusal.{Dues, short}
use Rattle.table.specs.Listed.{values}
use Rattle.held.specs.declared.map.Map.{Map}
use Rattle.answers.specs.Found.{Telling}
use Rattle.answers.specs.declared.cells.Told.{Told}

module _ (m : Map) (cells : List ℕ) where
  -- the refusal that is due, where l are the outputs' lengths and needs and more is what the call is judged by besides
  abbrev pub due : List (ℕ × ℕ) → Dues → ℕ
  due l more = refuse_map (short ((length cells, max_cells) ∷ l)) m more

  abbrev pub Lent : model.Map → Type 0
  Lent = HoldsSome m (λ t. t.cells ≡ cells)

  -- `is_occupied`, of the cell (x, y)
  abbrev pub IsOccupied : ℤ → ℤ → Told → Type 0
  IsOccupied x y r = Telling (due [] []) Lent x y r

  -- `occupied_cells`, and `corners` with their statuses: the outputs, and what they became
  abbrev pub cells_to : List ℕ → List ℕ → Output
  cells_to out out' = record { was = out; is = out'; wanted = occupied_cells }

  abbrev pub OccupiedCells : List ℕ → List ℕ → Count → Type 0
  OccupiedCells out out' r = Listing (due ((length out, need_cells) ∷ []) []) Lent (cells_to out out' ∷ []) r

  abbrev pub corners_to : List ℕ → List ℕ → List ℕ → List ℕ → List Output
  corners_to out out' statuses statuses' = record { was = out; is = out'; wanted = λ M. keys (numbered (corners M)) } ∷ record { was = statuses; is = statuses'; wanted = λ M. values (numbered (corners M)) } ∷ []

  abbrev pub CornerCells : List ℕ → List ℕ → List ℕ → List ℕ → Count → Type 0
  CornerCells out statuses out' statuses' r = Listing (due ((length out, need_cells) ∷ (length statuses, need_cells) ∷ []) []) Lent (corners_to out out' statuses statuses') r
