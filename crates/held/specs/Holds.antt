-- A map as its struct and its lent tables hold it (RULES 2.1). Definitions only.
use Rattle.std.specs.Prelude.{ℕ, ◌≡◌, List, [], ◌∷◌, drop, length}
use Rattle.limits.specs.Floor as floor
use Rattle.ieee.specs.Constants.{nought}
use Rattle.model.specs.Good.{Good}
use Rattle.model.specs.Limits.{max_cells, max_points}
use Rattle.model.specs.Map as model
use Rattle.held.specs.Pairs.{pair_places}
use Rattle.held.specs.Layers.{HoldsLayer}
use Rattle.held.specs.declared.map.Map.{Map}

-- the cells; the points with their statuses and blockers; the pairs
pub record Tables : Type 0 where
  pub cells : List ℕ
  pub points : List ℕ
  pub statuses : List ℕ
  pub blockers : List ℕ
  pub pairs : List ℕ

-- five lists as a map's tables
abbrev pub tables_of : List ℕ → List ℕ → List ℕ → List ℕ → List ℕ → Tables
tables_of cells points statuses blockers pairs = record { cells = cells; points = points; statuses = statuses; blockers = blockers; pairs = pairs }

-- all zero: what a refused call gives
abbrev pub no_map : Map
no_map = record { size = nought; radius = nought; cells = 0; points = 0 }

-- each length with its need
abbrev pub needs : Tables → List (ℕ × ℕ)
needs t = (length t.cells, max_cells) ∷ (length t.points, max_points) ∷ (length t.statuses, max_points) ∷ (length t.blockers, max_points) ∷ (length t.pairs, pair_places) ∷ []

-- the struct m and the tables t hold the model's map M, of which demand 3 holds
pub record Holds (m : Map) (t : Tables) (M : model.Map) : Type 0 where
  pub size : m.size ≡ M.size
  pub radius : m.radius ≡ M.layer.radius
  pub cells : floor.Holds t.cells m.cells M.cells
  pub layer : HoldsLayer t.points t.statuses t.blockers t.pairs m.points M.layer
  pub good : Good (model.shift_of M.size M.layer.radius) M.cells M.layer

-- what is past the fixed needs is left as it was
pub record Behind (t t' : Tables) : Type 0 where
  pub cells : drop max_cells t'.cells ≡ drop max_cells t.cells
  pub points : drop max_points t'.points ≡ drop max_points t.points
  pub statuses : drop max_points t'.statuses ≡ drop max_points t.statuses
  pub blockers : drop max_points t'.blockers ≡ drop max_points t.blockers
  pub pairs : drop pair_places t'.pairs ≡ drop pair_places t.pairs
  pub pairs_long : length t'.pairs ≡ length t.pairs
