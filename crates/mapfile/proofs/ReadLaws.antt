-- A file that was read into tables of the call's own: its map is handed over to those that are lent; and what the call's contract says. Assumes nothing.
use Rattle.std.proofs.Common.{◌≡◌, ℕ, ◌+◌, ◌<◌, ◌≤◌, Bool, true, false, List, [], ◌++◌, length, get_or, drop, sym, refl, ap, ◌∙◌, subst, true≢false, append-nil, arith, length-append, length-drop, drop_at, Ok}
use lib.ListN.{get_or-append}
use lib.Seq.{drop-length}
use Rattle.held.proofs.LayerLaws.{codes_count, statuses_length}
use Rattle.held.proofs.PadLaws.{copied, written_whole}
use Rattle.held.proofs.RoomLaws.{Enough, long_enough}
use Rattle.table.proofs.ListedLaws.{keys_length}
use Rattle.held.specs.Holds.{Behind, Holds, Tables, needs}
use Rattle.held.specs.Codes.{codes}
use Rattle.held.specs.Layers.{HoldsLayer, blocks_of, edge_at, statuses_of}
use Rattle.held.specs.Pairs.{Pairs, PairsBy, pair_place, pair_places}
use Rattle.held.specs.declared.map.Map.{Map}
use Rattle.model.specs.Layer.{Layer}
use Rattle.model.specs.Limits.{max_cells, max_points}
use Rattle.model.specs.Map as model
use Rattle.model.specs.MapFile.{Reading, done, more, read_file, refused}
use Rattle.model.specs.Maps.{keys}
use Rattle.model.specs.Refusal.{short}
use Rattle.table.specs.Copied.{Copied}
use Rattle.table.specs.Tables.{pad}
use Rattle.mapfile.proofs.OwnLaws.{Whole}
use Rattle.mapfile.proofs.ReadingLaws.{read_numbered}
use Rattle.mapfile.specs.Feeds.{EndsAs}
use Rattle.mapfile.specs.Files.{FileRead, OpensAs}
use Rattle.mapfile.specs.Told.{opened_told}
use Rattle.mapfile.specs.declared.file.Opened.{Opened}

-- ---- a table k of n places, written to the front of a longer one
module _ (n : ℕ) (k t t' : List ℕ) (whole : length k ≡ n) (room : n ≤ length t) (c : Copied k t t') where
  front : t' ≡ k ++ drop n t
  front = copied k k t t' n refl whole room c

  behind : drop n t' ≡ drop n t
  behind = ap (drop n) front ∙ drop_at k (drop n t) n whole

  long : length t' ≡ length t
  long =
      let x : length t' ≡ length k + length (drop n t) = ap length front ∙ length-append k (drop n t) in
      let y = length-drop n t in
      omega (arith, x, y, whole, room)

  padded : (l : List ℕ) → length l ≤ n → k ≡ pad n l ++ drop n k → t' ≡ pad n l ++ drop n t'
  padded l few e =
      let none : drop n k ≡ [] = ap (λ (m : ℕ). drop m k) (sym whole) ∙ drop-length k in
      let same : k ≡ pad n l = e ∙ ap (λ (z : List ℕ). pad n l ++ z) none ∙ append-nil (pad n l) in
      written_whole n l (drop n t) t' few (front ∙ ap (λ (z : List ℕ). z ++ drop n t) same)

  placed : (i : ℕ) → i < n → get_or t' i 0 ≡ get_or k i 0
  placed i h = ap (λ (z : List ℕ). get_or z i 0) front ∙ get_or-append k (drop n t) 0 i (rw whole h)

-- ---- five of them: what they hold
module _ (own t t' : Tables) (w : Whole own) (rooms : short (needs t) ≡ false) (cells : Copied own.cells t.cells t'.cells) (points : Copied own.points t.points t'.points)
    (statuses : Copied own.statuses t.statuses t'.statuses) (blockers : Copied own.blockers t.blockers t'.blockers) (pairs : Copied own.pairs t.pairs t'.pairs) where
  enough : Enough (needs t)
  enough = long_enough (needs t) rooms

  pub over_behind : Behind t t'
  over_behind =
      record {
        cells = behind max_cells own.cells t.cells t'.cells w.cells enough.0 cells;
        points = behind max_points own.points t.points t'.points w.points enough.1.0 points;
        statuses = behind max_points own.statuses t.statuses t'.statuses w.statuses enough.1.1.0 statuses;
        blockers = behind max_points own.blockers t.blockers t'.blockers w.blockers enough.1.1.1.0 blockers;
        pairs = behind pair_places own.pairs t.pairs t'.pairs w.pairs enough.1.1.1.1.0 pairs;
        pairs_long = long pair_places own.pairs t.pairs t'.pairs w.pairs enough.1.1.1.1.0 pairs;
      }

  over_pairs : (P : PairsBy) → Pairs P own.pairs → Pairs P t'.pairs
  over_pairs P h i j x y =
      let inside : pair_place i j < pair_places = omega (arith, x, y) in
      placed pair_places own.pairs t.pairs t'.pairs w.pairs enough.1.1.1.1.0 pairs (pair_place i j) inside ∙ h i j x y

  over_layer : (n : ℕ) (l : Layer) → HoldsLayer own.points own.statuses own.blockers own.pairs n l → HoldsLayer t'.points t'.statuses t'.blockers t'.pairs n l
  over_layer n l h =
      record {
        count = h.count;
        room = h.room;
        keys_are = padded max_points own.points t.points t'.points w.points enough.1.0 points (keys l.points) (rw (keys_length l.points) h.room) h.keys_are;
        statuses_are = padded max_points own.statuses t.statuses t'.statuses w.statuses enough.1.1.0 statuses (statuses_of l.points) (rw (statuses_length l.points) h.room) h.statuses_are;
        blocks_are = padded max_points own.blockers t.blockers t'.blockers w.blockers enough.1.1.1.0 blockers (codes (blocks_of l.points)) (rw (codes_count l.points) h.room) h.blocks_are;
        pairs_room = rw over_behind.pairs_long enough.1.1.1.1.0;
        pairs_are = over_pairs (edge_at l) h.pairs_are;
      }

  pub over_holds : (m : Map) (M : model.Map) → Holds m own M → Holds m t' M
  over_holds m M h =
      let c = h.cells in
      record {
        size = h.size;
        radius = h.radius;
        cells = record { table = padded max_cells own.cells t.cells t'.cells w.cells enough.0 cells M.cells c.room c.table; count = c.count; room = c.room; order = c.order; inside = c.inside };
        layer = over_layer m.points M.layer h.layer;
        good = h.good;
      }

-- ---- the call
module _ (b : List ℕ) (t : Tables) where
  module _ (rooms : short (needs t) ≡ false) where
    read_as : (t' : Tables) (r : Opened) (s : Reading) → read_file b ≡ s → OpensAs s t t' r → FileRead b t t' r
    read_as t' r s e h = record { lacking = λ k. absurd (true≢false (sym k ∙ rooms)); reads = λ k. subst (λ (z : Reading). OpensAs z t t' r) (sym e) h }

    pub read_opens : (own t' : Tables) (m : Map) → EndsAs (Ok m) own (read_file b) → ((M : model.Map) → Holds m own M → Holds m t' M) → Behind t t' → FileRead b t t' (opened_told (Ok m))
    read_opens own t' m k over v = read_as t' (opened_told (Ok m)) (done k.0) k.1 (refl, refl, over k.0 k.2, v)

-- ---- for callers: a file is refused or its map is held, by the number that was answered
module _ (b : List ℕ) (t t' : Tables) (r : Opened) where
  pub opened_refused : (r.refusal ≡ 0 → ⊥) → OpensAs (read_file b) t t' r → read_file b ≡ refused r.refusal r.field
  opened_refused h k = go (read_file b) refl k
    where
      go : (s : Reading) → read_file b ≡ s → OpensAs s t t' r → read_file b ≡ refused r.refusal r.field
      go (more R c) e k = absurd k
      go (refused n f) e k = e ∙ rw k.0 refl
      go (done M) e k = absurd (h k.0)

  pub opened_done : r.refusal ≡ 0 → OpensAs (read_file b) t t' r → (M : model.Map) × (read_file b ≡ done M) × Holds r.map t' M
  opened_done h k = go (read_file b) refl k
    where
      go : (s : Reading) → read_file b ≡ s → OpensAs s t t' r → (M : model.Map) × (read_file b ≡ done M) × Holds r.map t' M
      go (more R c) e k = absurd k
      go (refused n f) e k = absurd (read_numbered b n f e (sym (ap (λ (o : Opened). o.refusal) k.0) ∙ h))
      go (done M) e k = (M, e, k.2)

  -- a call that is not refused was lent enough
  pub accepted_rooms : FileRead b t t' r → r.refusal ≡ 0 → short (needs t) ≡ false
  accepted_rooms w z = go (short (needs t)) refl
    where
      go : (q : Bool) → short (needs t) ≡ q → q ≡ false
      go true e = absurd (nine (sym (ap (λ (o : Opened). o.refusal) (w.lacking e).0) ∙ z))
        where
          nine : ◌≡◌ {A = ℕ} 9 0 → ⊥
          nine h = omega arith
      go false e = refl
