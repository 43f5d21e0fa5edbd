-- What may be asked of a map (RULES 2.2, 2.5; occupancy/mod.rs). Every list ascends. Definitions only.
use Rattle.std.specs.Prelude.{ℕ, Bool, true, false, not, cond, ◌&&◌, List, [], ◌∷◌, ℤ}
use Rattle.std.proofs.Math.Option.{Option, none, some}
use Rattle.model.specs.Maps.{get, keys, is_some, has, sift}
use Rattle.model.specs.Cell.{key, eight}
use Rattle.model.specs.Corner.{Bits, sees, corner_cells}
use Rattle.model.specs.Batch.{confirmed, cells_after, corner_changes, Batch}
use Rattle.model.specs.Shape.{Found, Question, ask}
use Rattle.model.specs.Layer.{Point, Points, Pair, edge, pairs}
use Rattle.model.specs.Map.{Map, Entry, to_batch, tests}

-- ---- cells
-- `is_occupied`, for any pair of integers
unfoldable pub is_occupied : Map → ℤ → ℤ → Bool
is_occupied m x y = has (key x y) m.cells

-- `occupied_cells`, and `corners` with their statuses
unfoldable pub occupied_cells : Map → List ℕ
occupied_cells m = m.cells

unfoldable pub corners : Map → List (ℕ × Bits)
corners m = corner_cells m.cells

-- the four tests
unfoldable pub question : Map → Question → Found
question m q = ask m.size m.cells q

-- ---- what a batch answers: the confirmed changes, the corner changes, and yes exactly when something was confirmed
unfoldable pub confirmed_changes : List Entry → Map → Batch
confirmed_changes l m = confirmed (to_batch l) m.cells

unfoldable pub changed_corners : List Entry → Map → List (ℕ × Bits)
changed_corners l m = corner_changes m.cells (cells_after (to_batch l) m.cells) (confirmed (to_batch l) m.cells)

abbrev pub non_empty : Batch → Bool
non_empty [] = false
non_empty (e ∷ b) = true

unfoldable pub any_change : List Entry → Map → Bool
any_change l m = non_empty (confirmed_changes l m)

-- ---- points and pairs
abbrev pub free : Option ℕ → Bool
free b = not (is_some b)

-- all points with status and blocker; those that nothing blocks (`iter_points`)
unfoldable pub points : Map → Points
points m = m.layer.points

unfoldable pub free_points : Map → Points
free_points m = sift (λ p. free p.1.block) m.layer.points

-- all pairs with their blocker
unfoldable pub all_pairs : Map → List Pair
all_pairs m = pairs m.layer.points m.layer.edges

-- the pair and both its ends are unblocked (`iter_edges`)
abbrev pub free_at : Option Point → Bool
free_at none = false
free_at (some p) = free p.block

unfoldable pub is_open : Points → Pair → Bool
is_open ps p = free p.block && free_at (get p.lesser ps) && free_at (get p.greater ps)

unfoldable pub open_pairs : Map → List Pair
open_pairs m = let ps = m.layer.points in sift (is_open ps) (all_pairs m)

-- ---- `calculate_visibility`
-- from a point: its unblocked pairs, without looking at point blockers
abbrev pub open_edge : Option (Option ℕ) → Bool
open_edge none = false
open_edge (some b) = free b

unfoldable pub from_point : Map → ℕ → List ℕ
from_point m k = keys (sift (λ q. open_edge (edge k q.0 m.layer.edges)) m.layer.points)

-- from any other cell: the unblocked points in whose visible quadrant it lies, with a free sweep from its centre to theirs
unfoldable pub from_elsewhere : Map → ℕ → List ℕ
from_elsewhere m k =
    let sweep = (tests m.size m.layer.radius).sweep m.cells k in
    keys (sift (λ q. sees k q.0 q.1.bits && free (sweep q.0).cell) (free_points m))

-- the rows of the Rust's edge table are exactly the points, so 'has a row' is 'is a point' (crate `no_panics`, `opened_rows`)
unfoldable pub visible_from : Map → ℕ → List ℕ
visible_from m k =
    let a = from_point m k in
    let b = from_elsewhere m k in
    cond (is_some (get k m.layer.points)) a b

-- ---- `neighbors`: none if the square at this centre is taken, else the cells to whose centre the sweep is free
unfoldable pub neighbours : Map → ℕ → List ℕ
neighbours m k =
    let t = tests m.size m.layer.radius in
    let steps = sift (λ q. free (t.sweep m.cells k q).cell) (eight k) in
    cond (free (t.square m.cells k).cell) steps []
