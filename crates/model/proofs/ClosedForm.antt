-- The closed form of an update (specs/ClosedForm.antt): what each phase leaves, told from the changes, the marks and the old layer; of every batch and every fresh build. Assumes nothing.
use Prim.Native.Nat.{ℕ, ◌+◌, ◌≤◌, ◌<◌}
use native.Mathlib.Omega.{arith}
use mathlib.Core.Path.{◌≡◌, refl, sym, ap, ◌∙◌, subst}
use mathlib.Core.Bool.{cond}
use mathlib.Core.List.{List, [], ◌++◌}
use mathlib.Core.Option.{Option, none, some, map}
use lib.Dec.{T}
use lib.Ieee.{Float}
use lib.ListN.{length}
use Rattle.model.specs.Maps.{get, keys, is_some, has, Asc, AscL}
use Rattle.model.specs.Corner.{Bits, any_bit, corner_cells}
use Rattle.model.specs.Batch.{Batch, cells_after, confirmed, corner_changes}
use Rattle.model.specs.Layer.{Tests, Point, Points, Edges, Work, Mark, Layer, edge, marks, mark_all, phase3, edge_run, started, update}
use Rattle.model.specs.Map.{empty_layer}
use Rattle.model.specs.Good.{bits_in, want, Joined, Inside, Good}
use Rattle.model.specs.Limits.{max_shift, max_coordinate}
use Rattle.model.specs.ClosedForm.{marks_in, status_run, Once, kept, survivor, start_block, queue_run, new_block, point_run, closed_point, joins, or_else, closed_pair, Closed, stand}
use Rattle.model.proofs.MapLaws.{T→true, eqb_no, keys_has}
use Rattle.model.proofs.SingleLaws.{asc_single, length_keys, single_length}
use Rattle.model.proofs.BatchLaws.{cells_kept, confirmed_keys}
use Rattle.model.proofs.CornerLaws.{changes_fit, corners_fits, corners_asc}
use Rattle.model.proofs.EdgeLaws.{cond_ap}
use Rattle.model.proofs.Phase1Points.{bits_get, marks_status, marks_asc, run_block, run_queue}
use Rattle.model.proofs.Phase1Pairs.{Inv, marks_inv}
use Rattle.model.proofs.Phase1Once.{changes_single, marks_once, run_pairs}
use Rattle.model.proofs.Phase2.{ran, phase2_get}
use Rattle.model.proofs.Phase3.{apart, joined_apart}
use Rattle.model.proofs.Phase4.{phase4_run}
use Rattle.model.proofs.LayerLaws.{Lawful, joined_eq, good_inv, empty_inv, change_good, rebuild_good, update_status, update_grown, update_pair, update_ends}
use Rattle.model.proofs.StandLaws.{stand_any, stand_grows, stand_few}

-- ---- any update that marks no bit twice and leaves a good layer: the cells C afterwards, the changes ch, the corners cs
module _ (t : Tests) (C : List ℕ) (ch : Batch) (cs : List (ℕ × Bits)) (l : Layer) (inv : Inv (started l)) (asc : Asc 0 l.points) (once : Once (marks t.shift cs))
    (good : Good t.shift C (update t C ch cs l)) where
  -- its marks, what phase 1 leaves, and the layer afterwards
  abbrev ms : List Mark
  ms = marks t.shift cs

  abbrev w : Work
  w = mark_all t C ms (started l)

  abbrev after : Layer
  after = update t C ch cs l

  inv' : Inv w
  inv' = marks_inv t C ms (started l) inv

  -- ---- phase 1
  -- Of the old pairs phase 1 leaves exactly the survivors, with their blockers.
  pub pair_survives : (p q : ℕ) → edge p q w.edges ≡ survivor ms l p q
  unfolding survivor kept
  pair_survives = run_pairs t C ms once (started l) inv

  -- The statuses that the marks leave are those that the cells afterwards give.
  pub final_status : (k : ℕ) → status_run ms k (bits_in l.points k) ≡ want t.shift C k
  unfolding update
  final_status k = sym (update_status t C ch cs l inv asc k) ∙ good.points k

  status : (k : ℕ) → bits_in w.points k ≡ want t.shift C k
  status k = marks_status t C ms (started l) k ∙ final_status k

  -- After phase 1 a point that did not go has its old blocker, and any other the first cell of its square test.
  pub point_start_lem : (k : ℕ) (p : Point) → get k w.points ≡ some p → p.block ≡ start_block t C ms l k
  unfolding start_block kept
  point_start_lem = run_block t C ms (started l) inv.real

  -- The queue that phase 1 leaves is told from the marks and the old statuses alone.
  pub queue_start : w.queue ≡ queue_run ms (bits_in l.points)
  queue_start = run_queue t C ms (started l) inv.real

  -- ---- phase 2
  -- The points afterwards are those of the closed form, with their statuses and blockers.
  pub closed_point_lem : (k : ℕ) → get k after.points ≡ closed_point t C ch ms l k
  unfolding update closed_point
  closed_point_lem k = phase2_get t C ch w.points k ∙ go (get k w.points) refl
    where
      any : (o : Option Point) → get k w.points ≡ o → any_bit (want t.shift C k) ≡ is_some o
      any o e = ap any_bit (sym (status k)) ∙ sym (inv'.real k) ∙ ap is_some e

      go : (o : Option Point) → get k w.points ≡ o
          → map (ran t C k ch) o
          ≡ cond (any_bit (want t.shift C k)) (some (record { bits = want t.shift C k; block = point_run t C k ch (start_block t C ms l k) })) none
      go none e = rw (any none e) refl
      go (some P) e =
          rw (any (some P) e)
          (λ i. some (record { bits = (sym (bits_get k w.points (some P) e) ∙ status k) i; block = point_run t C k ch (point_start_lem k P e i) }))

  -- ---- phases 3 and 4
  -- the pairs that phase 3 leaves
  abbrev E : Edges
  E = phase3 t C w.queue after.points w.edges

  paired : (p q : ℕ) → edge p q E ≡ cond (apart (bits_in after.points) p q) (some (or_else (edge p q w.edges) (new_block t C w.queue p q))) none
  unfolding update
  paired = update_pair t C ch cs l inv asc

  -- A pair that phase 1 has left keeps its blocker in phase 3.
  pub old_pair_lem : (p q : ℕ) (v : Option ℕ) → edge p q w.edges ≡ some v → edge p q E ≡ some v
  unfolding update
  old_pair_lem p q v e = update_grown t C ch cs l inv asc p q ∙ rw e refl

  -- A pair that phase 1 has not left, of two that the cells afterwards join, gets in phase 3 the blocker of the sweep from the end that was queued first.
  pub new_pair : (p q : ℕ) → Joined (want t.shift C) p q → edge p q w.edges ≡ none → edge p q E ≡ some (new_block t C w.queue p q)
  unfolding update
  new_pair p q J e = paired p q ∙ rw (e, T→true (apart (bits_in after.points) p q) (joined_apart (bits_in after.points) p q J')) refl
    where
      J' : Joined (bits_in after.points) p q
      J' = joined_eq (want t.shift C) (bits_in after.points) (λ k. sym (good.points k)) p q J

  -- Phase 4 runs the blocker of every pair, seen from its lesser cell, over the changes.
  pub settled : (p q : ℕ) → p < q → edge p q after.edges ≡ map (edge_run t C p q ch) (edge p q E)
  unfolding update
  settled p q h = let h' : p ≤ q = omega arith in phase4_run t C ch after.points good.point_order E p q h' (update_ends t C ch cs l inv asc p q)

  -- The pairs afterwards, seen from their lesser cells, are those of the closed form, with their blockers.
  pub closed_pair_lem : (p q : ℕ) → p < q → edge p q after.edges ≡ closed_pair t C ch ms l p q
  unfolding closed_pair
  closed_pair_lem p q h =
      settled p q h ∙ ap (map run) (paired p q)
      ∙ rw (eqb_no p q (omega arith), same, pair_survives p q, queue_start) (cond_ap (map run) (joins (want t.shift C) p q) (some _) none)
    where
      run : Option ℕ → Option ℕ
      run = edge_run t C p q ch

      same : bits_in after.points ≡ want t.shift C
      same = λ i k. good.points k i

  -- ---- the whole
  pub update_closed : Closed t C ch ms l after
  update_closed = record { good = good; once = once; status = final_status; point = closed_point_lem; pair = closed_pair_lem }

  -- While the marks are made, there are never more points than there were before and are afterwards together.
  pub in_flight : (pre post : List Mark) → ms ≡ pre ++ post → length (mark_all t C pre (started l)).points ≤ length l.points + length after.points
  in_flight pre post e =
      let h : length (keys now) ≤ length (stand pre K) = single_length (keys now) (stand pre K) (asc_single 0 now (marks_asc t C pre (started l) asc)) stands in
      let g : length (stand pre K) ≤ length (stand ms K) = rw e (stand_grows pre post K) in
      let f = stand_few update_closed asc in
      let n = length_keys now in
      omega arith
    where
      K : List ℕ
      K = keys l.points

      now : Points
      now = (mark_all t C pre (started l)).points

      here : (x : ℕ) → has x (keys now) ≡ any_bit (status_run pre x (bits_in l.points x))
      here x = keys_has x now ∙ (marks_inv t C pre (started l) inv).real x ∙ ap any_bit (marks_status t C pre (started l) x)

      stands : (x : ℕ) → T (has x (keys now)) → T (has x (stand pre K))
      stands x u = stand_any pre l.points x (subst T (here x) u)

-- ---- a batch
-- Each bit is marked at most once in a batch.
pub batch_once : (s : ℕ) → s ≤ max_shift → (C : List ℕ) (b : Batch) → ((x : ℕ) → T (has x (keys b)) → Inside max_coordinate x) → Once (marks_in s C b)
batch_once s h C b inside =
    marks_once s C' (corner_changes C C' ch) h (changes_fit C C' ch (cells_kept b C) (λ x u. inside x (confirmed_keys b C x u))) (changes_single C C' ch)
  where
    C' : List ℕ
    C' = cells_after b C

    ch : Batch
    ch = confirmed b C

-- What a batch leaves is the closed form.
pub change_closed : (t : Tests) → Lawful t → (C : List ℕ) (l : Layer) → Good t.shift C l → (b : Batch) → Asc 0 b → ((x : ℕ) → T (has x (keys b)) → Inside max_coordinate x)
    → Closed t (cells_after b C) (confirmed b C) (marks_in t.shift C b) l (update t (cells_after b C) (confirmed b C) (corner_changes C (cells_after b C) (confirmed b C)) l)
change_closed t law C l g b asc inside =
    update_closed t (cells_after b C) (confirmed b C) (corner_changes C (cells_after b C) (confirmed b C)) l (good_inv t.shift C l g) g.point_order
    (batch_once t.shift law.small C b inside) (change_good t law C l g b asc inside)

-- ---- a fresh build
-- Each bit is marked at most once in a fresh build.
pub rebuild_once : (s : ℕ) → s ≤ max_shift → (C : List ℕ) → AscL 0 C → ((k : ℕ) → T (has k C) → Inside max_coordinate k) → Once (marks s (corner_cells C))
rebuild_once s h C ord inside = marks_once s C (corner_cells C) h (corners_fits C inside) (asc_single 0 (corner_cells C) (corners_asc C 0 C ord))

-- What a fresh build leaves is the closed form.
pub rebuild_closed : (t : Tests) → Lawful t → (C : List ℕ) → AscL 0 C → ((k : ℕ) → T (has k C) → Inside max_coordinate k) → (r : Float)
    → Closed t C [] (marks t.shift (corner_cells C)) (empty_layer r) (update t C [] (corner_cells C) (empty_layer r))
rebuild_closed t law C ord inside r =
    update_closed t C [] (corner_cells C) (empty_layer r) (empty_inv r) tt (rebuild_once t.shift law.small C ord inside) (rebuild_good t law C ord inside r)
