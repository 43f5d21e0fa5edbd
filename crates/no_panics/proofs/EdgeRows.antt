-- After every run of operations from an opening the Rust's edge table has a row for a cell exactly if the cell is a point, with the pairs that the model has of it. Assumes nothing.
use Prim.Native.Nat.{ℕ, zero, suc}
use mathlib.Core.Path.{◌≡◌, refl, sym, ap, ◌∙◌}
use mathlib.Core.Bool.{true, false, true≢false}
use mathlib.Core.Logic.{inl}
use mathlib.Core.List.{List, [], ◌∷◌}
use mathlib.Core.Option.{Option, none, some}
use lib.Ieee.{Float}
use Rattle.ieee.proofs.Tools.{same_test}
use Rattle.model.specs.Maps.{get, is_some}
use Rattle.model.specs.Corner.{Bits, corner_cells}
use Rattle.model.specs.Batch.{Batch, cells_after, confirmed, corner_changes}
use Rattle.model.specs.Layer.{Tests, Points, Edges, Layer, Work, Mark, line, mark_all, marks, started, phase2, phase3, update}
use Rattle.model.specs.Map.{Map, Op, batch, radius, tests, to_batch, shift_of, empty_layer, fresh, next, changed, rebuilt}
use Rattle.model.specs.Refusal.{unless, judge, refusal, step, run, opened}
use Rattle.model.proofs.MapLaws.{get_del_other}
use Rattle.model.proofs.Phase1Pairs.{Inv, marks_inv}
use Rattle.model.proofs.Phase2.{phase2_some}
use Rattle.model.proofs.LayerLaws.{good_inv, empty_inv}
use Rattle.model.proofs.RunLaws.{Sound, next_sound, run_keeps, opened_is, open_sound}
use Rattle.no_panics.specs.EdgeRows.{marks_rows, phase3_rows, phase4_rows, update_rows, next_rows, kept_rows, run_rows, RowsOf, OpenedRows, NoPair, Matched, OpenedMatched}
use Rattle.no_panics.proofs.SameRows.{Same, same_marks, same_phase3, same_phase4}
use Rattle.no_panics.proofs.PointRows.{In, Only, Queued, other, expected, marks_queued, only_phase3, full_phase3, only_phase4, stay_phase4}

-- ---- before the first mark nothing is queued
started_queued : (l : Layer) (e : Edges) → ((k : ℕ) → is_some (get k e) ≡ is_some (get k l.points)) → Queued (started l).points (started l).queue e
started_queued l e r = record { only = λ j u. rw (r j) at u; full = λ j u. inl (rw (sym (r j)) at u) }

-- ---- an update
module _ (t : Tests) (C : List ℕ) (ch : Batch) (cs : List (ℕ × Bits)) (l : Layer) (e : Edges) (v : Inv (started l)) (s : Same e l.edges) (r : (k : ℕ) → is_some (get k e) ≡ is_some (get k l.points)) where
  abbrev w : Work
  w = mark_all t C (marks t.shift cs) (started l)

  abbrev ps : Points
  ps = phase2 t C ch w.points

  abbrev first : Edges
  first = marks_rows t C (marks t.shift cs) (started l) e

  update_same : Same (update_rows t C ch cs l e) (update t C ch cs l).edges
  unfolding update_rows update
  update_same =
      same_phase4 t C ch ps (phase3_rows t C w.queue ps first) (phase3 t C w.queue ps w.edges)
      (same_phase3 t C w.queue ps first w.edges (same_marks t C (marks t.shift cs) (started l) e s))

  queued : Queued w.points w.queue first
  queued = marks_queued t C (marks t.shift cs) (started l) e v s (started_queued l e r)

  only : Only (In ps) (phase4_rows t C ch ps (phase3_rows t C w.queue ps first))
  only = only_phase4 t C ch ps (phase3_rows t C w.queue ps first) (only_phase3 t C w.queue ps first (λ j u. rw (phase2_some t C ch w.points j) (queued.only j u)))

  full : (j : ℕ) → In ps j → In (phase4_rows t C ch ps (phase3_rows t C w.queue ps first)) j
  full j u =
      stay_phase4 t C ch ps (phase3_rows t C w.queue ps first) j (full_phase3 t C w.queue ps first j u (queued.full j (rw (phase2_some t C ch w.points j) at u)))

  update_rows_lem : (k : ℕ) → is_some (get k (update_rows t C ch cs l e)) ≡ is_some (get k (update t C ch cs l).points)
  unfolding update_rows update
  update_rows_lem k = same_test (is_some (get k (update_rows t C ch cs l e))) (is_some (get k ps)) (only k) (full k)

-- ---- an accepted operation
next_rows_lem : (o : Op) (m : Map) (e : Edges) → Sound m → RowsOf m e → RowsOf (next o m) (next_rows o m e)
unfolding next changed rebuilt next_rows
next_rows_lem (batch l) m e g r =
    let t = tests m.size m.layer.radius in
    let C = cells_after (to_batch l) m.cells in
    let ch = confirmed (to_batch l) m.cells in
    let cs = corner_changes m.cells C ch in
    let v = good_inv (shift_of m.size m.layer.radius) m.cells m.layer g in
    record { pairs = update_same t C ch cs m.layer e v r.pairs r.rows; rows = update_rows_lem t C ch cs m.layer e v r.pairs r.rows }
next_rows_lem (radius x) m e g r =
    let t = tests m.size x in
    let cs = corner_cells m.cells in
    record {
      pairs = update_same t m.cells [] cs (empty_layer x) [] (empty_inv x) (λ k. refl) (λ k. unfold get in refl);
      rows = update_rows_lem t m.cells [] cs (empty_layer x) [] (empty_inv x) (λ k. refl) (λ k. unfold get in refl);
    }

-- ---- every run, refused operations among it
run_rows_lem : (os : List Op) (m : Map) (e : Edges) → Sound m → RowsOf m e → RowsOf (run os m) (run_rows os m e)
unfolding run run_rows step refusal
run_rows_lem [] m e g r = r
run_rows_lem (o ∷ os) m e g r =
    let a = go (judge [] o m (next o m)) refl in
    run_rows_lem os (unless (judge [] o m (next o m)) (next o m) m) (kept_rows (judge [] o m (next o m)) (next_rows o m e) e) a.0 a.1
  where
    go : (n : ℕ) → judge [] o m (next o m) ≡ n → Sound (unless n (next o m) m) × RowsOf (unless n (next o m) m) (kept_rows n (next_rows o m e) e)
    go zero h = (next_sound o m h g, next_rows_lem o m e g r)
    go (suc n) h = (g, r)

empty_rows : (c x : Float) → RowsOf (fresh c x) []
unfolding get
empty_rows c x = record { pairs = λ k. refl; rows = λ k. refl }

pub opened_rows : OpenedRows
opened_rows c r os = run_rows_lem os (opened c r) [] (open_sound c r) (opened_is (λ (m : Map). RowsOf m []) c r (λ h. empty_rows c r) (empty_rows _ _))

-- ---- of the model as it stands, which keeps no empty row of a new point: a cell that is no point has no pair
empty_line : (k : ℕ) (e : Edges) → is_some (get k e) ≡ false → line k e ≡ []
unfolding line
empty_line k e h = go (get k e) refl
  where
    go : (o : Option (List (ℕ × Option ℕ))) → get k e ≡ o → line k e ≡ []
    go none i = rw (i, line) refl
    go (some r) i = absurd (true≢false (ap is_some (sym i) ∙ h))

pub no_point_no_pair : NoPair
no_point_no_pair c r os k h =
    let x = opened_rows c r os in
    sym (x.pairs k) ∙ empty_line k (run_rows os (opened c r) []) (x.rows k ∙ h)

-- ---- every other in a row has one
matched : (t : Tests) (C : List ℕ) (ms : List Mark) (l : Layer) (e : Edges) → Inv (started l) → Same e l.edges → ((k : ℕ) → is_some (get k e) ≡ is_some (get k l.points)) → Matched (marks_rows t C ms (started l) e)
matched t C ms l e v s r k o u =
    let w = mark_all t C ms (started l) in
    let f = marks_rows t C ms (started l) e in
    let a = marks_inv t C ms (started l) v in
    let b = same_marks t C ms (started l) e s in
    let q = marks_queued t C ms (started l) e v s (started_queued l e r) in
    rw (get_del_other o k f (other t C w f a b q k o u).0) (expected t C w f a b q k o u)

pub opened_matched : OpenedMatched
opened_matched c r os t C ms =
    let m = run os (opened c r) in
    let x = opened_rows c r os in
    let g : Sound m = run_keeps Sound next_sound os (opened c r) (open_sound c r) in (
      matched t C ms m.layer (run_rows os (opened c r) []) (good_inv (shift_of m.size m.layer.radius) m.cells m.layer g) x.pairs x.rows,
      matched t C ms (empty_layer r) [] (empty_inv r) (λ k. refl) (λ k. unfold get in refl),
    )
