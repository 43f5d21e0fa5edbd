-- A layer's tables drawn anew hold the layer afterwards, and what is beyond their needs is as it was. Assumes nothing.
use Prim.Native.Nat.{ℕ, ◌≤◌}
use mathlib.Core.Path.{◌≡◌, ap, ◌∙◌}
use mathlib.Core.List.{List, ◌++◌}
use mathlib.Core.Option.{Option}
use lib.ListN.{drop, length}
use Rattle.held.specs.Layers.{HoldsLayer, blocks_of, edge_at, statuses_of}
use Rattle.held.proofs.LayerLaws.{codes_count, statuses_length}
use Rattle.model.specs.Batch.{Batch}
use Rattle.model.specs.ClosedForm.{Closed}
use Rattle.model.specs.Corner.{any_bit}
use Rattle.model.specs.Good.{bits_in}
use Rattle.model.specs.Layer.{Layer, Mark, Tests}
use Rattle.model.specs.Limits.{max_cells, max_points}
use Rattle.model.specs.Maps.{Asc, get, is_some, keys}
use Rattle.held.specs.Codes.{codes, pair_code}
use Rattle.held.specs.Pairs.{pair_places}
use Rattle.table.specs.Tables.{pad}
use Rattle.table.proofs.ListedLaws.{keys_length}
use Rattle.held.specs.Holds.{Behind, Tables}
use Rattle.visibility.specs.Layers.{stood_of}
use Rattle.visibility.specs.Redraw.{Redrawn}
use Rattle.visibility.proofs.BlockLaws.{blocks_are_lem}
use Rattle.held.proofs.PadLaws.{written_rest, written_whole}
use Rattle.visibility.proofs.PairLaws.{pairs_are_lem}
use Rattle.visibility.proofs.StoodLaws.{stood_keys, stood_statuses}

-- ---- the tables u drawn anew as u'
module _ {t : Tests} {C : List ℕ} {ch : Batch} {ms : List Mark} {l l' : Layer} (cl : Closed t C ch ms l l') (order : Asc 0 l.points)
    (real : (k : ℕ) → is_some (get k l.points) ≡ any_bit (bits_in l.points k)) (few : length l'.points ≤ max_points) (u u' : Tables)
    (d : Redrawn t C ch (stood_of ms l.points l'.points) (blocks_of l.points) (edge_at l) u.points u'.points u.statuses u'.statuses u.blockers u'.blockers u.pairs u'.pairs) where
  few_keys_lem : length (keys l'.points) ≤ max_points
  few_keys_lem = rw (keys_length l'.points) few

  few_statuses_lem : length (statuses_of l'.points) ≤ max_points
  few_statuses_lem = rw (statuses_length l'.points) few

  few_blocks : length (codes (blocks_of l'.points)) ≤ max_points
  few_blocks = rw (codes_count l'.points) few

  new_keys : u'.points ≡ pad max_points (keys l'.points) ++ drop max_points u.points
  new_keys = d.drawn.keys_are ∙ ap (λ (z : List ℕ). pad max_points z ++ drop max_points u.points) (stood_keys ms l.points l'.points)

  new_statuses : u'.statuses ≡ pad max_points (statuses_of l'.points) ++ drop max_points u.statuses
  new_statuses = d.drawn.statuses_are ∙ ap (λ (z : List ℕ). pad max_points z ++ drop max_points u.statuses) (stood_statuses cl)

  new_blocks : u'.blockers ≡ pad max_points (codes (blocks_of l'.points)) ++ drop max_points u.blockers
  new_blocks = d.drawn.blocks_are ∙ ap (λ (z : List (Option ℕ)). pad max_points (codes z) ++ drop max_points u.blockers) (blocks_are_lem cl order real)

  pub drawn_holds : pair_places ≤ length u.pairs → (n : ℕ) → n ≡ length l'.points → HoldsLayer u'.points u'.statuses u'.blockers u'.pairs n l'
  drawn_holds room n e =
      record {
        count = e;
        room = few;
        keys_are = written_whole max_points (keys l'.points) (drop max_points u.points) u'.points few_keys_lem new_keys;
        statuses_are = written_whole max_points (statuses_of l'.points) (drop max_points u.statuses) u'.statuses few_statuses_lem new_statuses;
        blocks_are = written_whole max_points (codes (blocks_of l'.points)) (drop max_points u.blockers) u'.blockers few_blocks new_blocks;
        pairs_room = rw d.filled.same room;
        pairs_are = λ i j a b. d.filled.pairs i j a b ∙ ap pair_code (pairs_are_lem cl order real i j);
      }

  pub drawn_behind : drop max_cells u'.cells ≡ drop max_cells u.cells → Behind u u'
  drawn_behind cells =
      record {
        cells = cells;
        points = written_rest max_points (keys l'.points) (drop max_points u.points) u'.points few_keys_lem new_keys;
        statuses = written_rest max_points (statuses_of l'.points) (drop max_points u.statuses) u'.statuses few_statuses_lem new_statuses;
        blockers = written_rest max_points (codes (blocks_of l'.points)) (drop max_points u.blockers) u'.blockers few_blocks new_blocks;
        pairs = d.filled.rest;
        pairs_long = d.filled.same;
      }
