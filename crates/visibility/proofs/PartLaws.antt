-- Tables of which a part is lent: the part holds what the whole does, if it has its needs, and the whole what the part does. Assumes nothing.
use Prim.Native.Nat.{ℕ, ◌+◌, ◌≤◌, ◌<◌}
use native.Mathlib.Omega.{arith}
use mathlib.Core.Path.{◌≡◌, sym, ap, ◌∙◌}
use mathlib.Core.List.{List, ◌++◌, append_assoc}
use lib.ListN.{get_or-append, drop, get_or, length, length-append, take, take-append-drop}
use lib.Seq.{take-append-le, take_at}
use Rattle.held.proofs.LayerLaws.{codes_count, statuses_length}
use Rattle.held.proofs.PadLaws.{written_whole}
use Rattle.held.proofs.RoomLaws.{Enough}
use Rattle.held.specs.Codes.{codes}
use Rattle.held.specs.Holds.{Holds, Tables, needs}
use Rattle.held.specs.Layers.{blocks_of, edge_at, statuses_of}
use Rattle.held.specs.Pairs.{Pairs, PairsBy, pair_place, pair_places}
use Rattle.held.specs.declared.map.Map.{Map}
use Rattle.model.specs.Limits.{max_cells, max_points}
use Rattle.model.specs.Map as model
use Rattle.model.specs.Maps.{keys}
use Rattle.table.proofs.ListedLaws.{keys_length}
use Rattle.table.proofs.TableLaws.{pad_length}
use Rattle.table.specs.Tables.{pad}
use Rattle.visibility.specs.Run.{joined}

-- ---- one table, of the part u and what follows it
module _ (cap : ℕ) (l u k : List ℕ) (few : length l ≤ cap) where
  part_padded : cap ≤ length u → u ++ k ≡ pad cap l ++ drop cap (u ++ k) → u ≡ pad cap l ++ drop cap u
  part_padded room e =
      let x : take cap u ≡ pad cap l = sym (take-append-le cap u k room) ∙ ap (take cap) e ∙ take_at (pad cap l) (drop cap (u ++ k)) cap (pad_length cap l few) in
      sym (take-append-drop cap u) ∙ ap (λ (z : List ℕ). z ++ drop cap u) x

  whole_padded : u ≡ pad cap l ++ drop cap u → u ++ k ≡ pad cap l ++ drop cap (u ++ k)
  whole_padded e = written_whole cap l (drop cap u ++ k) (u ++ k) few (ap (λ (z : List ℕ). z ++ k) e ∙ append_assoc (pad cap l) (drop cap u) k)

module _ (P : PairsBy) (u k : List ℕ) (room : pair_places ≤ length u) where
  same : (i j : ℕ) → i < max_points → j < max_points → get_or (u ++ k) (pair_place i j) 0 ≡ get_or u (pair_place i j) 0
  same i j h g = let x : pair_place i j < length u = omega arith in get_or-append u k 0 (pair_place i j) x

  part_pairs : Pairs P (u ++ k) → Pairs P u
  part_pairs e i j h g = sym (same i j h g) ∙ e i j h g

  whole_pairs : Pairs P u → Pairs P (u ++ k)
  whole_pairs e i j h g = same i j h g ∙ e i j h g

-- ---- all five
module _ (m : Map) (u k : Tables) (M : model.Map) where
  few_keys : length M.layer.points ≤ max_points → length (keys M.layer.points) ≤ max_points
  few_keys h = let e = keys_length M.layer.points in omega arith

  few_statuses : length M.layer.points ≤ max_points → length (statuses_of M.layer.points) ≤ max_points
  few_statuses h = let e = statuses_length M.layer.points in omega arith

  few_codes : length M.layer.points ≤ max_points → length (codes (blocks_of M.layer.points)) ≤ max_points
  few_codes h = let e = codes_count M.layer.points in omega arith

  pub holds_part : Enough (needs u) → Holds m (joined u k) M → Holds m u M
  holds_part n h =
      let c = h.cells in
      let y = h.layer in
      let p = n.1.1.1.1.0 in
      record {
        size = h.size;
        radius = h.radius;
        cells = record { table = part_padded max_cells M.cells u.cells k.cells c.room n.0 c.table; count = c.count; room = c.room; order = c.order; inside = c.inside };
        layer = record {
          count = y.count;
          room = y.room;
          keys_are = part_padded max_points (keys M.layer.points) u.points k.points (few_keys y.room) n.1.0 y.keys_are;
          statuses_are = part_padded max_points (statuses_of M.layer.points) u.statuses k.statuses (few_statuses y.room) n.1.1.0 y.statuses_are;
          blocks_are = part_padded max_points (codes (blocks_of M.layer.points)) u.blockers k.blockers (few_codes y.room) n.1.1.1.0 y.blocks_are;
          pairs_room = p;
          pairs_are = part_pairs (edge_at M.layer) u.pairs k.pairs p y.pairs_are;
        };
        good = h.good;
      }

  pub holds_whole : Holds m u M → Holds m (joined u k) M
  holds_whole h =
      let c = h.cells in
      let y = h.layer in
      let p = y.pairs_room in
      let e = length-append u.pairs k.pairs in
      record {
        size = h.size;
        radius = h.radius;
        cells = record { table = whole_padded max_cells M.cells u.cells k.cells c.room c.table; count = c.count; room = c.room; order = c.order; inside = c.inside };
        layer = record {
          count = y.count;
          room = y.room;
          keys_are = whole_padded max_points (keys M.layer.points) u.points k.points (few_keys y.room) y.keys_are;
          statuses_are = whole_padded max_points (statuses_of M.layer.points) u.statuses k.statuses (few_statuses y.room) y.statuses_are;
          blocks_are = whole_padded max_points (codes (blocks_of M.layer.points)) u.blockers k.blockers (few_codes y.room) y.blocks_are;
          pairs_room = omega (arith, p, e);
          pairs_are = whole_pairs (edge_at M.layer) u.pairs k.pairs p y.pairs_are;
        };
        good = h.good;
      }
