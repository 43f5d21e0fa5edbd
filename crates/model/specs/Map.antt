-- A map: its cell size, its occupied cells, one layer; opening, batches, radius changes (RULES 1.13, 2.3; occupancy/mod.rs, `Visibility`). Definitions only.
use Rattle.std.specs.Prelude.{ℕ, Bool, List, [], ◌∷◌, ℤ, pos, negsuc, Float}
use Rattle.std.specs.Float.{binary64}
use Rattle.std.specs.Float.Ieee.{mul}
use Rattle.ieee.specs.Constants.{pow2}
use Rattle.ieee.specs.Whole.{ceil_z}
use Rattle.ieee.specs.Yard.{shift_f}
use Rattle.model.specs.Cell.{key}
use Rattle.model.specs.Corner.{corner_cells}
use Rattle.model.specs.Batch.{Batch, cells_after, confirmed, corner_changes}
use Rattle.model.specs.Plane.{centre}
use Rattle.model.specs.Segment.{passes_near}
use Rattle.model.specs.Shape.{square_test, sweep_test}
use Rattle.model.specs.Layer.{Tests, Layer, update}

pub record Map : Type 0 where
  pub size : Float
  pub cells : List ℕ
  pub layer : Layer

-- an entry of a batch, as it is handed in
pub record Entry : Type 0 where
  pub x : ℤ
  pub y : ℤ
  pub full : Bool

unfoldable pub to_batch : List Entry → Batch
to_batch [] = []
to_batch (e ∷ l) = (key e.x e.y, e.full) ∷ to_batch l

-- ---- the float tests of a cell size and a radius
abbrev pub natural : ℤ → ℕ
natural (pos n) = n
natural (negsuc n) = 0

-- s = ceil(r/c + 0.5) (`calculate_cell_shift`)
unfoldable pub shift_of : Float → Float → ℕ
shift_of c r = natural (ceil_z (shift_f c r))

-- tests of width 2r, between centres
unfoldable pub tests : Float → Float → Tests
tests c r =
    record {
      shift = shift_of c r;
      square = λ C k. square_test c C (centre c k) (mul binary64 (pow2 1) r);
      sweep = λ C p q. sweep_test c C (centre c p) (centre c q) (mul binary64 (pow2 1) r);
      near = λ k p q. passes_near (record { p0 = centre c p; p1 = centre c q }) k c r;
    }

-- ---- what may be done to a map, where it is accepted
pub data Op : Type 0 where
  batch : List Entry → Op
  radius : Float → Op

-- nothing in it
abbrev pub empty_layer : Float → Layer
empty_layer r = record { radius = r; points = []; edges = [] }

abbrev pub fresh : Float → Float → Map
fresh c r = record { size = c; cells = []; layer = empty_layer r }

-- `change_cells`
unfoldable pub changed : Batch → Map → Map
changed b m =
    let C = cells_after b m.cells in
    let ch = confirmed b m.cells in
    record { size = m.size; cells = C; layer = update (tests m.size m.layer.radius) C ch (corner_changes m.cells C ch) m.layer }

-- `change_agent_radius` builds afresh, corner cells ascending
unfoldable pub rebuilt : Float → Map → Map
rebuilt r m = record { size = m.size; cells = m.cells; layer = update (tests m.size r) m.cells [] (corner_cells m.cells) (empty_layer r) }

unfoldable pub next : Op → Map → Map
next (batch l) m = changed (to_batch l) m
next (radius r) m = rebuilt r m
