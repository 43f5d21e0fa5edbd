-- What a map's five tables need; what the walks over points and pairs are lent, and what they list: the model's `pairs`, a row for each point (RULES 2.2, all pairs and open pairs; occupancy/mod.rs, `iter_points`, `iter_edges`). Definitions only.
use Rattle.std.specs.Prelude.{ℕ, suc, ◌+◌, ◌-◌, ◌≤◌, ◌≡◌, Bool, cond, List, [], ◌∷◌, ◌++◌, drop, get_or, length}
use Rattle.answers.specs.Asking.{Front}
use Rattle.answers.specs.Columns.{greaters, lessers, pair_blocks}
use Rattle.model.specs.Answers.{free, is_open}
use Rattle.model.specs.Layer.{Layer, Pair, Points, pairs, pairs_from}
use Rattle.model.specs.Limits.{max_cells, max_points}
use Rattle.model.specs.Maps.{Asc, keys, sift}
use Rattle.held.specs.Codes.{AllNamed, codes}
use Rattle.held.specs.Pairs.{Pairs, PairsNamed, pair_places}
use Rattle.held.specs.Layers.{blocks_of, edge_at}

-- ---- the lengths of a map's five tables with their needs, and those of the rest
abbrev pub table_needs : ℕ → ℕ → ℕ → ℕ → ℕ → List (ℕ × ℕ) → List (ℕ × ℕ)
table_needs cells points statuses blockers pairs l = (cells, max_cells) ∷ (points, max_points) ∷ (statuses, max_points) ∷ (blockers, max_points) ∷ (pairs, pair_places) ∷ l

-- ---- the entries at whose places p is true
unfoldable pub picked : (ℕ → Bool) → List ℕ → List ℕ
picked p [] = []
picked p (x ∷ l) = let r = picked (λ i. p (suc i)) l in cond (p 0) (x ∷ r) r

-- ---- lists of pairs
-- u is listed after any n pairs v that are at the front of t, and there are r then; col names the column
abbrev pub Grows : (List Pair → List ℕ) → List Pair → ℕ → ℕ → List ℕ → List ℕ → Type 0
Grows col u n r t t' = (v : List Pair) (o : List ℕ) → Front (col v) n o t → Front (col (v ++ u)) r o t'

-- the lent points and pairs are those of the layer l
pub record Shown (l : Layer) (points pairs : List ℕ) : Type 0 where
  pub room : length l.points ≤ max_points
  pub keys_are : points ≡ keys l.points
  pub pairs_are : Pairs (edge_at l) pairs
  pub named : PairsNamed (edge_at l)

-- and so are the lent blockers
pub record ShownOpen (l : Layer) (points blockers pairs : List ℕ) : Type 0 where
  pub shown : Shown l points pairs
  pub order : Asc 0 l.points
  pub blocks_are : blockers ≡ codes (blocks_of l.points)
  pub all_named : AllNamed (blocks_of l.points)

-- the pairs of the i-th point with those from the j-th on; with all after it; and all pairs
abbrev pub row_from : Layer → ℕ → ℕ → List Pair
row_from l i j = pairs_from (get_or (keys l.points) i 0) (drop j l.points) l.edges

abbrev pub row_of : Layer → ℕ → List Pair
row_of l i = row_from l i (i + 1)

abbrev pub pairs_of : Layer → List Pair
pairs_of l = pairs l.points l.edges

-- ---- what the walks promise: r is how many pairs there are then; a, b and c are the columns
-- the pairs of the i-th point with those after it have room in t, after `count` pairs
abbrev pub RowFits : List ℕ → ℕ → ℕ → List ℕ → Type 0
RowFits points i count t = count + (length points - i - 1) ≤ length t

abbrev pub RowListed : List ℕ → List ℕ → ℕ → ℕ → ℕ → List ℕ → List ℕ → List ℕ → List ℕ → List ℕ → List ℕ → Type 0
RowListed points table i count r a a' b b' c c' = (r + (i + 1) ≤ count + length points)
    × ((l : Layer) → Shown l points table → Grows lessers (row_of l i) count r a a' × Grows greaters (row_of l i) count r b b' × Grows pair_blocks (row_of l i) count r c c')

abbrev pub AllListed : List ℕ → List ℕ → ℕ → List ℕ → List ℕ → List ℕ → List ℕ → List ℕ → List ℕ → Type 0
AllListed points table r a a' b b' c c' =
    (l : Layer) → Shown l points table → Front (lessers (pairs_of l)) r a a' × Front (greaters (pairs_of l)) r b b' × Front (pair_blocks (pairs_of l)) r c c'

-- the open pairs among some
abbrev pub open_of : Layer → List Pair → List Pair
open_of l = sift (is_open l.points)

abbrev pub OpenRowListed : List ℕ → List ℕ → List ℕ → ℕ → ℕ → ℕ → List ℕ → List ℕ → List ℕ → List ℕ → Type 0
OpenRowListed points blockers table i count r a a' b b' = (r + (i + 1) ≤ count + length points)
    × ((l : Layer) → ShownOpen l points blockers table → Grows lessers (open_of l (row_of l i)) count r a a' × Grows greaters (open_of l (row_of l i)) count r b b')

abbrev pub OpenListed : List ℕ → List ℕ → List ℕ → ℕ → List ℕ → List ℕ → List ℕ → List ℕ → Type 0
OpenListed points blockers table r a a' b b' =
    (l : Layer) → ShownOpen l points blockers table → Front (lessers (open_of l (pairs_of l))) r a a' × Front (greaters (open_of l (pairs_of l))) r b b'

-- ---- the points that nothing blocks, of the points whose keys and blockers are lent
abbrev pub FreeListed : List ℕ → List ℕ → ℕ → List ℕ → List ℕ → Type 0
FreeListed points blockers r out out' = (ps : Points) → points ≡ keys ps → blockers ≡ codes (blocks_of ps) → AllNamed (blocks_of ps)
    → Front (keys (sift (λ p. free p.1.block) ps)) r out out'
