-- Every batch, and every fresh build, leaves a good layer (specs/Good.antt), whatever the float tests answer, as long as they answer occupied cells. Assumes nothing.
use Prim.Native.Nat.{ℕ, ◌≤◌}
use mathlib.Core.Path.{◌≡◌, refl, sym, ap, ◌∙◌, subst}
use mathlib.Core.Logic.{◌≢◌, ◌⊎◌, inl, inr, ⊎_elim}
use mathlib.Core.Bool.{Bool, true, false, cond, ◌&&◌, ◌||◌}
use mathlib.Core.List.{List, []}
use mathlib.Core.Option.{Option, none, some, map, map-eq-some_iff, none-ne-some, some-injective}
use lib.Dec.{T}
use lib.Ieee.{Float}
use Rattle.model.specs.Maps.{get, keys, is_some, has, Asc, AscL}
use Rattle.model.specs.Cell.{Dir, SW, SE, NW, NE, opp, move}
use Rattle.model.specs.Corner.{Bits, bit, any_bit, status_of, corner_cells}
use Rattle.model.specs.Batch.{Batch, cells_after, confirmed, corner_changes}
use Rattle.model.specs.Layer.{Tests, Layer, Point, Points, Edges, Work, edge, line, mark_all, marks, phase2, phase3, phase4, edge_run, started, update}
use Rattle.model.specs.Good.{bits_in, want, Joined, Inside, Good}
use Rattle.model.specs.ClosedForm.{status_run, ahead, new_block, or_else}
use Rattle.model.specs.Limits.{max_shift, max_coordinate}
use Rattle.model.specs.Map.{empty_layer}
use Rattle.model.proofs.MapLaws.{T→true, or_left, or_right, keys_has}
use Rattle.model.proofs.BitLaws.{ext_bits}
use Rattle.model.proofs.OrderLaws.{asc_within}
use Rattle.model.proofs.BatchLaws.{freed, Placed, cells_kept, cells_freed, cells_placed, cells_order, confirmed_keys}
use Rattle.model.proofs.CornerLaws.{Fits, changes_fit, changes_has, corners_fits, corners_has}
use Rattle.model.proofs.EdgeLaws.{Twins, some_cond, map_some, under}
use Rattle.model.proofs.Phase1Status.{Right, marks_right}
use Rattle.model.proofs.Phase1Points.{Real, marks_status, marks_asc}
use Rattle.model.proofs.Phase1Pairs.{Open, joined_map, Inv, marks_inv, marks_old}
use Rattle.model.proofs.Phase2.{phase2_bits, phase2_some, phase2_asc, point_from, Due, point_due, edge_due}
use Rattle.model.proofs.Phase3.{apart, apart_joined, joined_apart, grow, news, phase3_get, phase3_twins}
use Rattle.model.proofs.Phase4.{phase4_twins, phase4_get}

-- what the float tests owe: they answer occupied cells, and the shift is at most 64
pub record Lawful (t : Tests) : Type 0 where
  pub squares : (C : List ℕ) (k b : ℕ) → (t.square C k).cell ≡ some b → T (has b C)
  pub sweeps : (C : List ℕ) (p q b : ℕ) → (t.sweep C p q).cell ≡ some b → T (has b C)
  pub small : t.shift ≤ max_shift

pub joined_eq : (B B' : ℕ → Bits) → ((k : ℕ) → B k ≡ B' k) → (p q : ℕ) → Joined B p q → Joined B' p q
joined_eq B B' f p q = joined_map (subst (Open q p) (f p)) (subst (Open p q) (f q))

pub want_bit : (s : ℕ) (C : List ℕ) (k : ℕ) (D : Dir) → bit D (want s C k) ≡ bit D (status_of C (move s (opp D) k))
unfolding want
want_bit s C k SW = refl
want_bit s C k SE = refl
want_bit s C k NW = refl
want_bit s C k NE = refl

-- ---- what `update` leaves, whatever the float tests answer
module _ (t : Tests) (C : List ℕ) (ch : Batch) (cs : List (ℕ × Bits)) (l : Layer) (inv : Inv (started l)) (asc : Asc 0 l.points) where
  -- what phase 1 leaves; the points afterwards; the pairs that phase 3 leaves
  abbrev w : Work
  w = mark_all t C (marks t.shift cs) (started l)

  abbrev ps : Points
  ps = phase2 t C ch w.points

  abbrev E : Edges
  E = phase3 t C w.queue ps w.edges

  inv' : Inv w
  inv' = marks_inv t C (marks t.shift cs) (started l) inv

  pub update_status : (k : ℕ) → bits_in ps k ≡ status_run (marks t.shift cs) k (bits_in l.points k)
  update_status k = phase2_bits t C ch w.points k ∙ marks_status t C (marks t.shift cs) (started l) k

  update_asc : Asc 0 ps
  update_asc = phase2_asc t C ch w.points (marks_asc t C (marks t.shift cs) (started l) asc)

  update_real : Real ps
  update_real k = phase2_some t C ch w.points k ∙ inv'.real k ∙ ap any_bit (sym (phase2_bits t C ch w.points k))

  -- Phase 3 adds to what phase 1 leaves the new pairs.
  pub update_grown : (p q : ℕ) → edge p q E ≡ grow (edge p q w.edges) (news t C (bits_in ps) w.queue p q)
  update_grown = phase3_get t C ps update_real (asc_within 0 ps update_asc) w.queue w.edges inv'.twins

  update_twins : Twins E
  update_twins = phase3_twins t C ps update_real (asc_within 0 ps update_asc) w.queue w.edges inv'.twins

  -- Then there is a pair exactly where the ends join: what phase 1 left, or a new one.
  pub update_pair : (p q : ℕ) → edge p q E ≡ cond (apart (bits_in ps) p q) (some (or_else (edge p q w.edges) (new_block t C w.queue p q))) none
  update_pair p q = update_grown p q ∙ go (edge p q w.edges) refl
    where
      B : ℕ → Bits
      B = bits_in ps

      here : T (is_some (edge p q w.edges)) → Joined B p q
      here u = joined_eq (bits_in w.points) B (λ k. sym (phase2_bits t C ch w.points k)) p q (inv'.sound p q u)

      queued : edge p q w.edges ≡ none → Joined B p q → T (has p w.queue || has q w.queue)
      queued e J =
          ⊎_elim (λ u. absurd (let x : T false = rw e at u in x)) (⊎_elim (or_left (has p w.queue) (has q w.queue)) (or_right (has p w.queue) (has q w.queue)))
          (inv'.full p q (joined_eq B (bits_in w.points) (phase2_bits t C ch w.points) p q J))

      both : (a h : Bool) → (T a → T h) → a && h ≡ a
      both true h f = T→true h (f tt)
      both false h f = refl

      go : (o : Option (Option ℕ)) → edge p q w.edges ≡ o → grow o (news t C B w.queue p q) ≡ cond (apart B p q) (some (or_else o (new_block t C w.queue p q))) none
      go none e = rw (both (apart B p q) (has p w.queue || has q w.queue) (λ u. queued e (apart_joined B p q u))) refl
      go (some v) e = rw (T→true (apart B p q) (joined_apart B p q (here (rw e tt)))) refl

  update_some : (p q : ℕ) → is_some (edge p q E) ≡ apart (bits_in ps) p q
  update_some p q = ap is_some (update_pair p q) ∙ some_cond (apart (bits_in ps) p q) (or_else (edge p q w.edges) (new_block t C w.queue p q))

  -- the ends of a pair are points
  pub update_ends : (p q : ℕ) → T (is_some (edge p q E)) → (p ≢ q) × T (has p (keys ps)) × T (has q (keys ps))
  update_ends p q u = let J = apart_joined (bits_in ps) p q (rw (update_some p q) at u) in (J.differ, rw (keys_has p ps, update_real p) J.one, rw (keys_has q ps, update_real q) J.other)

  -- Phase 4 runs the blocker of every pair over the changes.
  update_run : (p q : ℕ) → (i : ℕ) × (j : ℕ) × (edge p q (phase4 t C ch ps E) ≡ map (edge_run t C i j ch) (edge p q E))
  update_run = phase4_get t C ch ps update_asc E update_twins update_ends

  -- every blocker named after phase 3 is occupied or will be freed
  update_due : ((p q b : ℕ) → (t.sweep C p q).cell ≡ some b → T (has b C)) → ((p q : ℕ) (v : Option ℕ) → edge p q l.edges ≡ some v → Due C ch v)
      → (p q : ℕ) (v : Option ℕ) → edge p q E ≡ some v → Due C ch v
  unfolding new_block
  update_due sweeps old p q v e =
      let x = under (apart (bits_in ps) p q) (some (or_else (edge p q w.edges) (new_block t C w.queue p q))) v (sym (update_pair p q) ∙ e) in
      subst (Due C ch) (some-injective (or_else (edge p q w.edges) (new_block t C w.queue p q)) v x.1) (go (edge p q w.edges) refl)
    where
      swept : (s : Bool) → Due C ch (cond s (t.sweep C p q).cell (t.sweep C q p).cell)
      swept true b r = inl (sweeps p q b r)
      swept false b r = inl (sweeps q p b r)

      go : (o : Option (Option ℕ)) → edge p q w.edges ≡ o → Due C ch (or_else o (new_block t C w.queue p q))
      go none f = swept (ahead p q w.queue)
      go (some x) f = old p q x (marks_old t C (marks t.shift cs) (started l) inv p q x f)

  -- ---- it is a good layer, where what the changes fill is occupied, every old blocker is due, and every bit is right or one of its corner's changes
  module _ (law : Lawful t) (placed : Placed C ch) (points : (k : ℕ) (p : Point) → get k l.points ≡ some p → Due C ch p.block)
      (pairs : (p q : ℕ) (v : Option ℕ) → edge p q l.edges ≡ some v → Due C ch v) (fits : Fits C cs)
      (right : (D : Dir) (k : ℕ) → Right t.shift C D k (bits_in l.points k) ⊎ T (has (move t.shift (opp D) k) (keys cs))) where
    edge_blocked : (p q b : ℕ) → edge p q (phase4 t C ch ps E) ≡ some (some b) → T (has b C)
    edge_blocked p q b r =
        let x = update_run p q in
        let y = (map-eq-some_iff (edge_run t C x.0 x.1 ch) (edge p q E)).0 (sym x.2 ∙ r) in
        edge_due t C x.0 x.1 (law.sweeps C x.0 x.1) ch placed y.0 (update_due (law.sweeps C) pairs p q y.0 y.1) b y.2

    point_blocked : (k b : ℕ) (p : Point) → get k (update t C ch cs l).points ≡ some p → p.block ≡ some b → T (has b C)
    point_blocked k b p e r =
        let x = point_from t C ch cs l (Due C ch) k (λ z y. inl (law.squares C k z y)) (points k) p e in
        point_due t C k (law.squares C k) ch placed x.0 x.1 b (x.2 ∙ r)

    exact : (k : ℕ) → bits_in ps k ≡ want t.shift C k
    exact k =
        update_status k
        ∙ ext_bits (status_run (marks t.shift cs) k (bits_in l.points k)) (want t.shift C k)
        (λ D. marks_right t.shift C cs D k (bits_in l.points k) law.small fits (right D k) ∙ sym (want_bit t.shift C k D))

    pairs_are_lem : (p q : ℕ) → is_some (edge p q (phase4 t C ch ps E)) ≡ apart (bits_in ps) p q
    pairs_are_lem p q = let x = update_run p q in ap is_some x.2 ∙ map_some (edge_run t C x.0 x.1 ch) (edge p q E) ∙ update_some p q

    update_good : AscL 0 C → ((k : ℕ) → T (has k C) → Inside max_coordinate k) → Good t.shift C (update t C ch cs l)
    unfolding update
    update_good ordered inside =
        let W = want t.shift C in
        record {
          cell_order = ordered;
          point_order = update_asc;
          inside = inside;
          points = exact;
          real = update_real;
          pairs = λ p q. (
            λ u. joined_eq (bits_in ps) W exact p q (apart_joined (bits_in ps) p q (subst T (pairs_are_lem p q) u)),
            λ J. subst T (sym (pairs_are_lem p q)) (joined_apart (bits_in ps) p q (joined_eq W (bits_in ps) (λ k. sym (exact k)) p q J)),
          );
          twins = phase4_twins t C ch ps E update_twins;
          edge_block = edge_blocked;
          point_block = point_blocked;
        }

-- ---- a batch
-- what phase 1 needs of the old layer
pub good_inv : (s : ℕ) (C : List ℕ) (l : Layer) → Good s C l → Inv (started l)
good_inv s C l g =
    record {
      real = g.real;
      twins = g.twins;
      sound = λ p q u. joined_eq (want s C) (bits_in l.points) (λ k. sym (g.points k)) p q ((g.pairs p q).0 u);
      full = λ p q J. inl ((g.pairs p q).1 (joined_eq (bits_in l.points) (want s C) g.points p q J));
    }

-- C before, C' after
pub change_good : (t : Tests) → Lawful t → (C : List ℕ) (l : Layer) → Good t.shift C l → (b : Batch) → Asc 0 b → ((x : ℕ) → T (has x (keys b)) → Inside max_coordinate x)
    → Good t.shift (cells_after b C) (update t (cells_after b C) (confirmed b C) (corner_changes C (cells_after b C) (confirmed b C)) l)
change_good t law C l g b asc inside =
    update_good t C' ch (corner_changes C C' ch) l (good_inv t.shift C l g) g.point_order law (cells_placed 0 b C asc) (λ k p e x r. due x (g.point_block k x p e r))
    (λ p q v e x r. due x (g.edge_block p q x (e ∙ ap some r))) (changes_fit C C' ch kept inside_c) right (cells_order b C g.cell_order) inside'
  where
    C' : List ℕ
    C' = cells_after b C

    ch : Batch
    ch = confirmed b C

    kept : (x : ℕ) → T (has x (keys ch)) ⊎ (has x C' ≡ has x C)
    kept x = cells_kept b C x

    inside_c : (x : ℕ) → T (has x (keys ch)) → Inside max_coordinate x
    inside_c x u = inside x (confirmed_keys b C x u)

    inside' : (k : ℕ) → T (has k C') → Inside max_coordinate k
    inside' k u = ⊎_elim (inside_c k) (λ e. g.inside k (rw e at u)) (kept k)

    due : (x : ℕ) → T (has x C) → T (has x C') ⊎ T (freed x ch)
    due x u = cells_freed b C x (T→true (has x C) u)

    right : (D : Dir) (k : ℕ) → Right t.shift C' D k (bits_in l.points k) ⊎ T (has (move t.shift (opp D) k) (keys (corner_changes C C' ch)))
    right D k =
        ⊎_elim (λ u. inr u) (λ q. inl (ap (bit D) (g.points k) ∙ want_bit t.shift C k D ∙ ap (bit D) q))
        (changes_has C C' ch kept inside_c (move t.shift (opp D) k))

-- ---- a fresh build
pub empty_inv : (r : Float) → Inv (started (empty_layer r))
unfolding bits_in get edge line
empty_inv r = record { real = λ k. refl; twins = λ p q. refl; sound = λ p q u. absurd u; full = λ p q J. absurd J.one }

pub rebuild_good : (t : Tests) → Lawful t → (C : List ℕ) → AscL 0 C → ((k : ℕ) → T (has k C) → Inside max_coordinate k) → (r : Float)
    → Good t.shift C (update t C [] (corner_cells C) (empty_layer r))
unfolding bits_in get edge line
rebuild_good t law C ord inside r =
    update_good t C [] (corner_cells C) (empty_layer r) (empty_inv r) tt law tt (λ k p e. absurd (none-ne-some p e)) (λ p q v e. absurd (none-ne-some v e))
    (corners_fits C inside) (λ D k. ⊎_elim (λ u. inr u) (λ q. inl (ap (bit D) (sym q))) (corners_has C (move t.shift (opp D) k))) ord inside
