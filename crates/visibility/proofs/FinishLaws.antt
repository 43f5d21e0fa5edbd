-- A batch that is accepted, from what its steps leave: the cells, the layer drawn anew over them, the lists. Assumes nothing.
use Rattle.std.specs.Prelude.{min}
use Prim.Native.Nat.{ℕ, ◌≤◌}
use native.Mathlib.Omega.{arith}
use mathlib.Core.Path.{◌≡◌, refl, sym, ap, ◌∙◌, subst}
use mathlib.Core.List.{List, ◌++◌}
use lib.Dec.{ltb}
use lib.Ieee.{Float}
use lib.ListN.{drop, length, length-append, length-drop, take}
use lib.Seq.{length-take-le}
use Rattle.batches.proofs.AlterLaws.{flags_keys}
use Rattle.batches.proofs.CommitLaws.{Commits, committed, committed_behind, committed_holds}
use Rattle.limits.proofs.FloorLaws.{holds_cells}
use Rattle.limits.specs.Batches.{flags}
use Rattle.model.specs.Batch.{cells_after, confirmed}
use Rattle.model.specs.Refusal.{outside, unsorted}
use mathlib.Core.Bool.{false}
use Rattle.limits.specs.Floor as floor
use Rattle.model.proofs.BatchLaws.{cells_order}
use Rattle.model.specs.Cell as cell
use Rattle.model.specs.Limits.{max_cells, need_confirmed, need_corners}
use Rattle.model.specs.Map as model
use Rattle.model.specs.Maps.{keys}
use Rattle.sight.specs.Blocked.{Seeing, Stood}
use Rattle.table.proofs.ListedLaws.{keys_length, values_length}
use Rattle.table.specs.Listed.{Listed, values}
use Rattle.table.specs.Copied.{Copied}
use Rattle.visibility.specs.Change.{Done, changes_of, corners_of}
use Rattle.held.specs.Holds.{Behind, Holds, Tables, tables_of}
use Rattle.held.specs.Layers.{blocks_of, edge_at}
use Rattle.visibility.specs.Layers.{stood_of}
use Rattle.visibility.specs.Redraw.{Drawing, Redrawn, Redraws}
use Rattle.visibility.specs.Update.{CommitsCells, Finishing, Updating}
use Rattle.held.specs.declared.map.Map.{Map}
use Rattle.visibility.proofs.AcceptedLaws.{C', M', T, ch, closed, changed, few_altered, few_changes, few_corners, good, good_after, ms, next_cells, next_radius, next_size, same_shift, set}
use Rattle.visibility.proofs.DrawnLaws.{drawn_behind, drawn_holds}
use Rattle.held.proofs.LayerLaws.{layer_blocks, layer_rooms}
use Rattle.visibility.proofs.RowLaws.{layer_rows}
use Rattle.held.proofs.NamedLaws.{blocks_named_lem, pairs_named}
use Rattle.held.proofs.PadLaws.{copied}
use Rattle.visibility.proofs.StoodLaws.{fitting, stood_keys, stood_length}

-- ---- the cells, committed in the first places of their table; `after` is cut down to the places that there are
pub commits_cells : {k n : List ℕ} (t : List ℕ) (i : ℕ) (w : List ℕ) (after used : ℕ) → max_cells ≤ length t → length w ≡ length (take max_cells t) → used ≡ min after max_cells → Commits (take max_cells t) i k n w after
    → CommitsCells k n t i (w ++ drop max_cells t) used
commits_cells {k} {n} t i w after used room long cut h = (omega arith, same, λ M l held o b r x y. (cells M l held o b r x y, committed_behind l held o b r x y h))
  where
    same : length (w ++ drop max_cells t) ≡ length t
    same =
        let x : length (take max_cells t) ≡ max_cells = length-take-le max_cells t room in
        let y = length-append w (drop max_cells t) in
        let z = length-drop max_cells t in
        omega (arith, long, x, y, z)

    cells : (M : model.Map) (l : List model.Entry) → floor.Holds t i M.cells → unsorted l ≡ false → outside l ≡ false → length (cells_after (model.to_batch l) M.cells) ≤ max_cells
        → k ≡ keys (confirmed (model.to_batch l) M.cells) → n ≡ values (flags (confirmed (model.to_batch l) M.cells)) → floor.Holds (w ++ drop max_cells t) used (cells_after (model.to_batch l) M.cells)
    cells M l held o b r x y =
        let a : after ≡ length (cells_after (model.to_batch l) M.cells) = (committed l held o b r x y h).1 in
        let e : used ≡ length (cells_after (model.to_batch l) M.cells) = omega arith in
        subst (λ (j : ℕ). floor.Holds (w ++ drop max_cells t) j (cells_after (model.to_batch l) M.cells)) (sym e) (committed_holds l held o b r x y h)

-- ---- two lists, copied to the front of two tables
listed : (L : List (ℕ × ℕ)) (k v a a' b b' : List ℕ) → k ≡ keys L → v ≡ values L → length L ≤ length a → length L ≤ length b → Copied k a a' → Copied v b b' → Listed L a a' b b' (length k)
listed L k v a a' b b' x y h g u w =
    record {
      count = ap length x ∙ keys_length L;
      cells = copied k (keys L) a a' (length L) x (keys_length L) h u;
      numbers = copied v (values L) b b' (length L) y (values_length L) g w;
    }

-- the points after the batch l on M, each with what is kept of it
abbrev S : model.Map → List model.Entry → Stood
S M l = stood_of (ms M l) M.layer.points (M' M l).layer.points

module _ {m : Map} {M : model.Map} {l : List model.Entry} {t : Tables} {confirmed full corners altered present moods : List ℕ} (f : Finishing m t M l confirmed full corners altered present moods) where
  abbrev u : Updating m t M l
  u = f.updating

  confirmed_is : confirmed ≡ keys (ch M l)
  confirmed_is = f.confirmed_are ∙ flags_keys (ch M l)

  number : length present ≡ length (M' M l).layer.points
  number = ap length f.keys_are ∙ keys_length (M' M l).layer.points

  -- ---- what `redraw` is lent
  seeing : Seeing (C' M l) (ch M l) (S M l) confirmed full present moods
  seeing =
      record {
        order = cells_order (model.to_batch l) M.cells u.holds.cells.order;
        inside = (set u).stays u.holds.cells.inside;
        changes = (set u).inside;
        fitting = fitting (changed M l) (closed u) (good u).point_order u.holds.layer.room (few_corners u);
        confirmed_are = confirmed_is;
        full_are = f.full_are;
        points_are = f.keys_are ∙ sym (stood_keys (ms M l) M.layer.points (M' M l).layer.points);
        moods_are = rw (same_shift M) f.moods_are;
      }

  drawing : Drawing (C' M l) (ch M l) (S M l) (blocks_of M.layer.points) confirmed full present moods t.points t.statuses t.blockers m.points
  drawing =
      let held = u.holds.layer in
      let k = stood_length (ms M l) M.layer.points (M' M l).layer.points in
      record {
        seeing = seeing;
        few = rw k f.packed;
        blocks_are = layer_blocks held;
        blocks_named = blocks_named_lem (good u);
        points_room = (layer_rooms held).0;
        statuses_room = (layer_rooms held).1;
        blockers_room = (layer_rooms held).2;
      }

  -- ---- the cells D afterwards, of which `used` are used
  module _ (D : List ℕ) (used : ℕ) (commits : CommitsCells confirmed full t.cells m.cells D used) where
    cells_done : floor.Holds D used (C' M l) × (drop max_cells D ≡ drop max_cells t.cells)
    cells_done = commits.2 M l u.holds.cells u.order u.bounds u.room confirmed_is f.full_are

    cells_held : floor.Holds D used (C' M l)
    cells_held = cells_done.0

    used_is : used ≡ length (C' M l)
    used_is = cells_held.count

    module _ (points statuses blockers pairs : List ℕ) (reach : ℕ) (at : reach ≡ cell.reach (model.shift_of M.size M.layer.radius))
        (redraws : Redraws m.size m.radius reach (take used D) confirmed full present moods m.points t (tables_of D points statuses blockers pairs)) where
      abbrev t' : Tables
      t' = tables_of D points statuses blockers pairs

      -- the cells that were lent are those afterwards
      redrawn : Redrawn (T M) (C' M l) (ch M l) (S M l) (blocks_of M.layer.points) (edge_at M.layer) t.points t'.points t.statuses t'.statuses t.blockers t'.blockers t.pairs t'.pairs
      redrawn =
          subst (λ (k : List ℕ). Redraws M.size M.layer.radius reach k confirmed full present moods m.points t t') (holds_cells D used (C' M l) cells_held)
          (subst (λ (c : Float). Redraws c M.layer.radius reach (take used D) confirmed full present moods m.points t t') u.holds.size
          (subst (λ (r : Float). Redraws m.size r reach (take used D) confirmed full present moods m.points t t') u.holds.radius redraws))
          (ch M l) (S M l) (blocks_of M.layer.points) (edge_at M.layer) at drawing (pairs_named (good u)) (layer_rows u.holds.layer)

      held : Holds (record { size = m.size; radius = m.radius; cells = used; points = length present }) t' (M' M l)
      held =
          record {
            size = u.holds.size ∙ sym (next_size M l);
            radius = u.holds.radius ∙ sym (next_radius M l);
            cells = rw (next_cells M l) cells_held;
            layer = drawn_holds (closed u) (good u).point_order (good u).real f.packed t t' redrawn u.holds.layer.pairs_room (length present) number;
            good = good_after u;
          }

      behind : Behind t t'
      behind =
          drawn_behind (closed u) (good u).point_order (good u).real f.packed t t' redrawn cells_done.1

      -- What is left is what the batch makes of the map, and the lists are copied.
      pub finished : (outConfirmed outConfirmed' outFull outFull' outCorners outCorners' outAltered outAltered' : List ℕ) → need_confirmed ≤ length outConfirmed → need_confirmed ≤ length outFull → need_corners ≤ length outCorners → need_corners ≤ length outAltered
          → Copied confirmed outConfirmed outConfirmed' → Copied full outFull outFull' → Copied corners outCorners outCorners' → Copied altered outAltered outAltered'
          → Done m M l (record { tables = t; confirmed = outConfirmed; full = outFull; corners = outCorners; altered = outAltered })
          (record { tables = t'; confirmed = outConfirmed'; full = outFull'; corners = outCorners'; altered = outAltered' })
          (record { refusal = 0; yes = ltb 0 (length confirmed); confirmed = length confirmed; corners = length corners; map = record { size = m.size; radius = m.radius; cells = used; points = length present } })
      finished outConfirmed outConfirmed' outFull outFull' outCorners outCorners' outAltered outAltered' hc hf hn ha x y z v =
          let i = few_changes u in
          let j = few_altered u in
          let changes : Listed (changes_of M l) outConfirmed outConfirmed' outFull outFull' (length confirmed) =
          listed (changes_of M l) confirmed full outConfirmed outConfirmed' outFull outFull' f.confirmed_are f.full_are (omega (arith, i, hc)) (omega (arith, i, hf)) x y in
          let alters : Listed (corners_of M l) outCorners outCorners' outAltered outAltered' (length corners) =
          listed (corners_of M l) corners altered outCorners outCorners' outAltered outAltered' f.corners_are f.altered_are (omega (arith, j, hn)) (omega (arith, j, ha)) z v in
          record {
            answer = rw (changes.count, alters.count, used_is ∙ ap length (sym (next_cells M l)), number) refl;
            holds = held;
            behind = behind;
            changes = changes;
            altered = alters;
          }
