-- Phase 2: it runs the blocker of every point over the changes and alters nothing else; and what a run of blockers leaves is occupied. Assumes nothing.
use Prim.Native.Nat.{ℕ}
use mathlib.Core.Path.{◌≡◌, refl, sym, ap, ◌∙◌, subst}
use mathlib.Core.Logic.{◌⊎◌, inl, inr, ⊎_elim}
use mathlib.Core.Bool.{Bool, true, false, not, cond, ◌||◌, ◌&&◌, and-true, and-false}
use mathlib.Core.List.{List, [], ◌∷◌}
use mathlib.Core.Option.{Option, none, some, map, map-eq-some_iff, none-ne-some, some-injective}
use lib.Dec.{T, eqb}
use Rattle.model.specs.Maps.{get, map_v, is_some, has, Asc}
use Rattle.model.specs.Cell.{within}
use Rattle.model.specs.Corner.{Bits}
use Rattle.model.specs.Batch.{Batch}
use Rattle.model.specs.Layer.{Tests, Point, Points, Layer, marks, mark_all, point_after, phase2, edge_after, edge_run, started, update}
use Rattle.model.specs.Good.{bits_of, bits_in}
use Rattle.model.specs.ClosedForm.{point_run}
use Rattle.model.proofs.MapLaws.{get_map_v}
use Rattle.model.proofs.OrderLaws.{asc_map_v}
use Rattle.model.proofs.BatchLaws.{freed, Placed}
use Rattle.model.proofs.EdgeLaws.{map_some}
use Rattle.model.proofs.Phase1Points.{run_kept}

module _ (t : Tests) (C : List ℕ) where
  -- ---- what stands at k
  abbrev pub ran : ℕ → Batch → Point → Point
  ran k ch p = record { bits = p.bits; block = point_run t C k ch p.block }

  abbrev after : ℕ × Bool → ℕ → Point → Point
  after c k p = record { bits = p.bits; block = point_after t C k c.0 c.1 p.block }

  pub phase2_get : (ch : Batch) (ps : Points) (k : ℕ) → get k (phase2 t C ch ps) ≡ map (ran k ch) (get k ps)
  unfolding phase2 point_run
  phase2_get [] ps k = go (get k ps)
    where
      go : (o : Option Point) → o ≡ map (ran k []) o
      go none = refl
      go (some p) = refl
  phase2_get (c ∷ ch) ps k = phase2_get ch (map_v (after c) ps) k ∙ ap (map (ran k ch)) (get_map_v (after c) k ps) ∙ go (get k ps)
    where
      go : (o : Option Point) → map (ran k ch) (map (after c k) o) ≡ map (ran k (c ∷ ch)) o
      go none = refl
      go (some p) = refl

  pub phase2_bits : (ch : Batch) (ps : Points) (k : ℕ) → bits_in (phase2 t C ch ps) k ≡ bits_in ps k
  unfolding bits_in
  phase2_bits ch ps k = ap bits_of (phase2_get ch ps k) ∙ go (get k ps)
    where
      go : (o : Option Point) → bits_of (map (ran k ch) o) ≡ bits_of o
      go none = refl
      go (some p) = refl

  pub phase2_some : (ch : Batch) (ps : Points) (k : ℕ) → is_some (get k (phase2 t C ch ps)) ≡ is_some (get k ps)
  phase2_some ch ps k = ap is_some (phase2_get ch ps k) ∙ map_some (ran k ch) (get k ps)

  pub phase2_asc : (ch : Batch) (ps : Points) → Asc 0 ps → Asc 0 (phase2 t C ch ps)
  unfolding phase2
  phase2_asc [] ps a = a
  phase2_asc (c ∷ ch) ps a = phase2_asc ch (map_v (after c) ps) (asc_map_v (after c) 0 ps a)

  -- After an update a point's blocker is the run of one of which Q holds, if Q holds of the square test's answer and of the old blocker.
  pub point_from : (ch : Batch) (cs : List (ℕ × Bits)) (l : Layer) (Q : Option ℕ → Type 0) (k : ℕ) → Q (t.square C k).cell
      → ((p : Point) → get k l.points ≡ some p → Q p.block) → (p : Point) → get k (update t C ch cs l).points ≡ some p
      → (o : Option ℕ) × Q o × (point_run t C k ch o ≡ p.block)
  unfolding update
  point_from ch cs l Q k new old p e =
      let w = mark_all t C (marks t.shift cs) (started l) in
      let r = (map-eq-some_iff (ran k ch) (get k w.points)).0 (sym (phase2_get ch w.points k) ∙ e) in
      (r.0.block, run_kept t C Q k new (marks t.shift cs) (started l) old r.0 r.1, ap (λ z. z.block) r.2)

-- ---- blockers that are occupied, or that the changes still to come free
abbrev pub Due : List ℕ → Batch → Option ℕ → Type 0
Due C ch o = (b : ℕ) → o ≡ some b → T (has b C) ⊎ T (freed b ch)

-- what a test answers
abbrev pub Answers : List ℕ → Option ℕ → Type 0
Answers C r = (b : ℕ) → r ≡ some b → T (has b C)

-- the blocker o after the change of c: c itself, if it is filled and s; the test's new answer r, if o was freed
abbrev changed : Bool → Option ℕ → ℕ → Bool → Option ℕ → Option ℕ
changed s r c true o = cond s (some c) o
changed s r c false none = none
changed s r c false (some b) = cond (eqb b c) r (some b)

module _ (C : List ℕ) (c : ℕ) (ch : Batch) where
  -- a change that fills frees nothing; one that frees c frees nothing else
  due_past : (b : ℕ) (v : Bool) → eqb b c && not v ≡ false → T (has b C) ⊎ T (freed b ((c, v) ∷ ch)) → T (has b C) ⊎ T (freed b ch)
  unfolding freed
  due_past b v e = ⊎_elim (λ u. inl u) (λ u. inr (let x : T (false || freed b ch) = rw e at u in x))

  due_step : (s : Bool) (r : Option ℕ) (v : Bool) (o : Option ℕ) → Answers C r → (T v → T (has c C)) → Due C ((c, v) ∷ ch) o → Due C ch (changed s r c v o)
  due_step true r true o a f g b e = inl (subst (λ (z : ℕ). T (has z C)) (some-injective c b e) (f tt))
  due_step false r true o a f g b e = due_past b true (and-false (eqb b c)) (g b e)
  due_step s r false none a f g b e = absurd (none-ne-some b e)
  due_step s r false (some x) a f g b e = go (eqb x c) refl e
    where
      go : (n : Bool) → eqb x c ≡ n → cond n r (some x) ≡ some b → T (has b C) ⊎ T (freed b ch)
      go true p q = inl (a b q)
      go false p q = let y : x ≡ b = some-injective x b q in due_past b false (and-true (eqb b c) ∙ rw y at p) (g b q)

due_end : (C : List ℕ) (o : Option ℕ) → Due C [] o → Answers C o
unfolding freed
due_end C o g b e = ⊎_elim (λ u. u) (λ u. absurd u) (g b e)

module _ (t : Tests) (C : List ℕ) where
  point_changed : (k c : ℕ) (v : Bool) (o : Option ℕ) → point_after t C k c v o ≡ changed (within t.shift c k && not (is_some o)) (t.square C k).cell c v o
  point_changed k c true none = rw (and-true (within t.shift c k)) refl
  point_changed k c true (some b) = rw (and-false (within t.shift c k)) refl
  point_changed k c false none = refl
  point_changed k c false (some b) = refl

  edge_changed : (i j c : ℕ) (v : Bool) (o : Option ℕ) → edge_after t C i j c v o ≡ changed (t.near c i j) (t.sweep C i j).cell c v o
  edge_changed i j c true o = refl
  edge_changed i j c false none = refl
  edge_changed i j c false (some b) = refl

  pub point_due : (k : ℕ) → Answers C (t.square C k).cell → (ch : Batch) → Placed C ch → (o : Option ℕ) → Due C ch o → Answers C (point_run t C k ch o)
  unfolding point_run
  point_due k a [] p o g = due_end C o g
  point_due k a (c ∷ ch) p o g =
      point_due k a ch p.1 (point_after t C k c.0 c.1 o)
      (rw (point_changed k c.0 c.1 o) (due_step C c.0 ch (within t.shift c.0 k && not (is_some o)) (t.square C k).cell c.1 o a p.0 g))

  pub edge_due : (i j : ℕ) → Answers C (t.sweep C i j).cell → (ch : Batch) → Placed C ch → (o : Option ℕ) → Due C ch o → Answers C (edge_run t C i j ch o)
  unfolding edge_run
  edge_due i j a [] p o g = due_end C o g
  edge_due i j a (c ∷ ch) p o g =
      edge_due i j a ch p.1 (edge_after t C i j c.0 c.1 o)
      (rw (edge_changed i j c.0 c.1 o) (due_step C c.0 ch (t.near c.0 i j) (t.sweep C i j).cell c.1 o a p.0 g))
