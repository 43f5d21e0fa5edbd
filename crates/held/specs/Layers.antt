-- A layer as the lent tables hold it. Definitions only.
use Rattle.std.specs.Prelude.{ℕ, ◌≤◌, ◌≡◌, cond, ◌&&◌, List, [], ◌∷◌, ◌++◌, ltb, drop, get_or, length}
use Rattle.std.proofs.Math.Option.{Option, none}
use Rattle.model.specs.Corner.{number}
use Rattle.model.specs.Layer.{Layer, Points, edge}
use Rattle.model.specs.Limits.{max_points}
use Rattle.model.specs.Maps.{keys}
use Rattle.table.specs.Tables.{pad}
use Rattle.held.specs.Codes.{codes}
use Rattle.held.specs.Pairs.{Pairs, pair_places}

-- statuses by the paper's numbers
abbrev pub statuses_of : Points → List ℕ
statuses_of [] = []
statuses_of (e ∷ ps) = number e.1.bits ∷ statuses_of ps

-- the points' blockers, in their order
abbrev pub blocks_of : Points → List (Option ℕ)
blocks_of [] = []
blocks_of (e ∷ ps) = e.1.block ∷ blocks_of ps

-- the pair of the points at two places
unfoldable pub edge_at : Layer → ℕ → ℕ → Option (Option ℕ)
edge_at l i j =
    let n = length l.points in
    let e = edge (get_or (keys l.points) i 0) (get_or (keys l.points) j 0) l.edges in
    cond (ltb i n && ltb j n) e none

-- four tables hold the n points and the pairs of the layer l: the unused rest, up to the fixed need, is zero
pub record HoldsLayer (points statuses blockers pairs : List ℕ) (n : ℕ) (l : Layer) : Type 0 where
  pub count : n ≡ length l.points
  pub room : length l.points ≤ max_points
  pub keys_are : points ≡ pad max_points (keys l.points) ++ drop max_points points
  pub statuses_are : statuses ≡ pad max_points (statuses_of l.points) ++ drop max_points statuses
  pub blocks_are : blockers ≡ pad max_points (codes (blocks_of l.points)) ++ drop max_points blockers
  pub pairs_room : pair_places ≤ length pairs
  pub pairs_are : Pairs (edge_at l) pairs
