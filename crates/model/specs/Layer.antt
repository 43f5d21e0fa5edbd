-- Points, pairs and blockers of one radius, and their update in its four phases, as occupancy/mod.rs does it (`Visibility::update_corners`). Definitions only.
-- The float tests are handed in as `Tests`; specs/Map.antt says which they are.
use Rattle.std.specs.Prelude.{ℕ, Bool, true, false, not, cond, ◌&&◌, List, [], ◌∷◌, ◌++◌, eqb, Float}
use Rattle.std.proofs.Math.Option.{Option, none, some}
use Rattle.model.specs.Maps.{get, put, del, map_v, keys, is_some}
use Rattle.model.specs.Cell.{Dir, SW, SE, NW, NE, move, within}
use Rattle.model.specs.Corner.{Bits, zero4, set_bit, any_bit, sees}
use Rattle.model.specs.Batch.{Batch}
use Rattle.model.specs.Shape.{Found}

-- the shift, the square test at a cell's centre, the sweep from one centre to another, and whether the segment between two centres passes near a cell
pub record Tests : Type 0 where
  pub shift : ℕ
  pub square : List ℕ → ℕ → Found
  pub sweep : List ℕ → ℕ → ℕ → Found
  pub near : ℕ → ℕ → ℕ → Bool

-- a point's status, and its blocker
pub record Point : Type 0 where
  pub bits : Bits
  pub block : Option ℕ

abbrev pub Points : Type 0
Points = List (ℕ × Point)

-- each pair is stored under both its points, with its blocker
abbrev pub Edges : Type 0
Edges = List (ℕ × List (ℕ × Option ℕ))

pub record Layer : Type 0 where
  pub radius : Float
  pub points : Points
  pub edges : Edges

-- ---- edges
-- the pairs of p
unfoldable pub line : ℕ → Edges → List (ℕ × Option ℕ)
line p e = elim (get p e) [ none ↦ [] | some r ↦ r ]

-- the pair as p has it: none, or its blocker
unfoldable pub edge : ℕ → ℕ → Edges → Option (Option ℕ)
edge p q e = get q (line p e)

-- one end of a pair, put and taken
unfoldable pub tie : ℕ → ℕ → Option ℕ → Edges → Edges
tie p q v e = put p (put q v (line p e)) e

unfoldable pub untie : ℕ → ℕ → Edges → Edges
untie p q e = put p (del q (line p e)) e

-- both ends
unfoldable pub link : ℕ → ℕ → Option ℕ → Edges → Edges
link p q v e = tie q p v (tie p q v e)

-- a bit was set at k: its pairs with those that are no longer in its visible quadrant go
unfoldable pub hide : ℕ → Bits → List ℕ → Edges → Edges
hide k b [] e = e
hide k b (o ∷ os) e = let e' = untie o k (untie k o e) in hide k b os (cond (sees o k b) e e')

-- the point k goes: its pairs go from the other ends
unfoldable pub erase : ℕ → List ℕ → Edges → Edges
erase k [] e = e
erase k (o ∷ os) e = erase k os (untie o k e)

-- ---- phase 1: statuses, one bit at a time
-- the corner `dir` of some cell gives, or no longer gives, the point `at` that bit
pub record Mark : Type 0 where
  pub dir : Dir
  pub at : ℕ
  pub on : Bool

-- in bit order; over the corners in their order
abbrev pub marks_of : ℕ → ℕ → Bits → List Mark
marks_of s b t =
    record { dir = SW; at = move s SW b; on = t.sw } ∷ record { dir = SE; at = move s SE b; on = t.se } ∷ record { dir = NW; at = move s NW b; on = t.nw }
    ∷ record { dir = NE; at = move s NE b; on = t.ne } ∷ []

unfoldable pub marks : ℕ → List (ℕ × Bits) → List Mark
marks s [] = []
marks s (c ∷ cs) = marks_of s c.0 c.1 ++ marks s cs

-- points, pairs, and the points queued for new pairs
pub record Work : Type 0 where
  pub points : Points
  pub edges : Edges
  pub queue : List ℕ

-- where an update starts
abbrev pub started : Layer → Work
started l = record { points = l.points; edges = l.edges; queue = [] }

module _ (t : Tests) (C : List ℕ) where
  -- a set bit at k, by what is there: a new point takes the first cell of its square test
  unfoldable pub raise : Dir → ℕ → Option Point → Work → Work
  raise d k none w =
      record { points = put k (record { bits = set_bit d true zero4; block = (t.square C k).cell }) w.points; edges = w.edges; queue = w.queue ++ (k ∷ []) }
  raise d k (some p) w =
      let b = set_bit d true p.bits in
      record { points = put k (record { bits = b; block = p.block }) w.points; edges = hide k b (keys (line k w.edges)) w.edges; queue = w.queue }

  -- a clear bit at k: a point that loses its last bit goes with its pairs, one that keeps another is queued
  unfoldable pub lower : Dir → ℕ → Option Point → Work → Work
  lower d k none w = w
  lower d k (some p) w =
      let b = set_bit d false p.bits in
      let kept : Work = record { points = put k (record { bits = b; block = p.block }) w.points; edges = w.edges; queue = w.queue ++ (k ∷ []) } in
      let gone : Work = record { points = del k w.points; edges = erase k (keys (line k w.edges)) (del k w.edges); queue = w.queue } in
      cond (any_bit b) kept gone

  unfoldable pub mark : Dir → ℕ → Bool → Work → Work
  mark d k true w = raise d k (get k w.points) w
  mark d k false w = lower d k (get k w.points) w

  unfoldable pub mark_all : List Mark → Work → Work
  mark_all [] w = w
  mark_all (m ∷ ms) w = mark_all ms (mark m.dir m.at m.on w)

  -- ---- phase 2: what blocks the points
  -- point k that b blocks, after the change of cell c
  abbrev pub point_after : ℕ → ℕ → Bool → Option ℕ → Option ℕ
  point_after k c true none = cond (within t.shift c k) (some c) none
  point_after k c true (some b) = some b
  point_after k c false none = none
  point_after k c false (some b) = let r = (t.square C k).cell in cond (eqb b c) r (some b)

  unfoldable pub phase2 : Batch → Points → Points
  phase2 [] ps = ps
  phase2 (e ∷ ch) ps = phase2 ch (map_v (λ k p. record { bits = p.bits; block = point_after k e.0 e.1 p.block }) ps)

  -- ---- phase 3: new pairs, from the queued points in turn
  unfoldable pub wanted : ℕ → Bits → ℕ → Bits → Edges → Bool
  wanted k b o b' e = not (eqb k o) && not (is_some (edge k o e)) && sees k o b' && sees o k b

  unfoldable pub connect : ℕ → Bits → Points → Edges → Edges
  connect k b [] e = e
  connect k b (o ∷ os) e =
      let e' = link k o.0 (t.sweep C k o.0).cell e in
      connect k b os (cond (wanted k b o.0 o.1.bits e) e' e)

  -- a queued point may have gone meanwhile
  abbrev pub connect_at : Option Point → ℕ → Points → Edges → Edges
  connect_at none k ps e = e
  connect_at (some p) k ps e = connect k p.bits ps e

  unfoldable pub phase3 : List ℕ → Points → Edges → Edges
  phase3 [] ps e = e
  phase3 (k ∷ q) ps e = phase3 q ps (connect_at (get k ps) k ps e)

  -- ---- phase 4: what blocks the pairs
  -- the pair (i, j) that b blocks, after the change of cell c
  abbrev pub edge_after : ℕ → ℕ → ℕ → Bool → Option ℕ → Option ℕ
  edge_after i j c true b = cond (t.near c i j) (some c) b
  edge_after i j c false none = none
  edge_after i j c false (some b) = let r = (t.sweep C i j).cell in cond (eqb b c) r (some b)

  unfoldable pub edge_run : ℕ → ℕ → Batch → Option ℕ → Option ℕ
  edge_run i j [] b = b
  edge_run i j (e ∷ ch) b = edge_run i j ch (edge_after i j e.0 e.1 b)

  abbrev pub settle_at : ℕ → ℕ → Batch → Option (Option ℕ) → Edges → Edges
  settle_at i j ch none e = e
  settle_at i j ch (some b) e = link i j (edge_run i j ch b) e

  -- per pair from lesser to greater cell (mapf/src/util.rs, `triangular_for`)
  unfoldable pub settle_row : ℕ → Batch → Points → Edges → Edges
  settle_row i ch [] e = e
  settle_row i ch (j ∷ js) e = settle_row i ch js (settle_at i j.0 ch (edge i j.0 e) e)

  unfoldable pub settle_all : Batch → Points → Edges → Edges
  settle_all ch [] e = e
  settle_all ch (i ∷ is) e = settle_all ch is (settle_row i.0 ch is e)

  -- skipped where nothing was confirmed
  unfoldable pub phase4 : Batch → Points → Edges → Edges
  phase4 [] ps e = e
  phase4 (c ∷ ch) ps e = settle_all (c ∷ ch) ps e

  -- ---- the whole: the confirmed changes ch and the corners, over the cells C as they are afterwards
  unfoldable pub update : Batch → List (ℕ × Bits) → Layer → Layer
  update ch corners l =
      let w = mark_all (marks t.shift corners) (started l) in
      let ps = phase2 ch w.points in
      record { radius = l.radius; points = ps; edges = phase4 ch ps (phase3 w.queue ps w.edges) }

-- ---- the views that answers and contracts use: they do not tell an empty row from none
pub record Pair : Type 0 where
  pub lesser : ℕ
  pub greater : ℕ
  pub block : Option ℕ

abbrev pub pair_of : ℕ → ℕ → Option (Option ℕ) → List Pair
pair_of p q none = []
pair_of p q (some b) = record { lesser = p; greater = q; block = b } ∷ []

unfoldable pub pairs_from : ℕ → Points → Edges → List Pair
pairs_from p [] e = []
pairs_from p (q ∷ qs) e = pair_of p q.0 (edge p q.0 e) ++ pairs_from p qs e

-- every pair once, lesser cell first, ascending
unfoldable pub pairs : Points → Edges → List Pair
pairs [] e = []
pairs (p ∷ ps) e = pairs_from p.0 ps e ++ pairs ps e
