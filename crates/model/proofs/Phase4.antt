-- Phase 4: it gives every pair the blocker that its run over the changes, from its lesser to its greater cell, leaves. Assumes nothing.
use Prim.Native.Nat.{ℕ, suc, ◌≤◌, ◌<◌}
use native.Mathlib.Decide.{ℕ_discrete}
use native.Mathlib.Omega.{arith}
use mathlib.Core.Path.{◌≡◌, refl, ap, ◌∙◌}
use mathlib.Core.Logic.{◌≢◌, ◌⊎◌, inl, inr, ⊎_elim}
use mathlib.Core.Bool.{Bool, true, false, cond, ◌||◌, ◌&&◌, and-false, and-or_distrib_left}
use mathlib.Core.List.{List, [], ◌∷◌}
use mathlib.Core.Option.{Option, none, some, map}
use lib.Dec.{T, eqb, eqb→eq}
use lib.Ieee.Fits.{and_i, and_l, and_r}
use Rattle.ieee.proofs.Tools.{lt_or_ge, or_cases}
use Rattle.model.specs.Maps.{keys, is_some, has, Asc}
use Rattle.model.specs.Batch.{Batch}
use Rattle.model.specs.Layer.{Tests, Points, Edges, edge, edge_run, settle_at, settle_row, settle_all, phase4}
use Rattle.model.proofs.MapLaws.{or_left, or_right, T→true, notT→false, eqb_yes, eqb_no}
use Rattle.model.proofs.SingleLaws.{asc_miss}
use Rattle.model.proofs.EdgeLaws.{Twins, hits, hits_fore, hits_either, link_at, twins_link}

-- p stands in the list, and q after it
abbrev before : ℕ → ℕ → Points → Bool
before p q [] = false
before p q (i ∷ is) = (eqb p i.0 && has q (keys is)) || before p q is

before_has : (p q : ℕ) (is : Points) → T (before p q is) → T (has p (keys is))
unfolding keys has
before_has p q [] u = u
before_has p q (i ∷ is) u =
    ⊎_elim (λ x. or_left (eqb p i.0) (has p (keys is)) (and_l (eqb p i.0) (has q (keys is)) x)) (λ x. or_right (eqb p i.0) (has p (keys is)) (before_has p q is x))
    (or_cases (eqb p i.0 && has q (keys is)) (before p q is) u)

before_yes : (p q lo : ℕ) (is : Points) → Asc lo is → p < q → T (has p (keys is)) → T (has q (keys is)) → T (before p q is)
unfolding keys has
before_yes p q lo [] a l x y = x
before_yes p q lo (i ∷ is) a l x y =
    go (or_cases (eqb p i.0) (has p (keys is)) x) (or_cases (eqb q i.0) (has q (keys is)) y) (before_yes p q (suc i.0) is a.1 l)
  where
    go : T (eqb p i.0) ⊎ T (has p (keys is)) → T (eqb q i.0) ⊎ T (has q (keys is)) → (T (has p (keys is)) → T (has q (keys is)) → T (before p q is))
        → T ((eqb p i.0 && has q (keys is)) || before p q is)
    go (inl u) (inl v) ih = let e : p ≡ i.0 = eqb→eq p i.0 u in let f : q ≡ i.0 = eqb→eq q i.0 v in absurd (omega arith)
    go (inl u) (inr v) ih = or_left (eqb p i.0 && has q (keys is)) (before p q is) (and_i (eqb p i.0) (has q (keys is)) u v)
    go (inr u) (inl v) ih = let f : q ≡ i.0 = eqb→eq q i.0 v in let h : p < suc i.0 = omega arith in absurd (asc_miss (suc i.0) p is a.1 h u)
    go (inr u) (inr v) ih = or_right (eqb p i.0 && has q (keys is)) (before p q is) (ih u v)

-- what is changed by one of two turns and not by both
once : {A : Type 0} (r : A → A) (x : A) (a b : Bool) → (T a → T b → ⊥) → cond b (r (cond a (r x) x)) (cond a (r x) x) ≡ cond (a || b) (r x) x
once r x true true f = absurd (f tt tt)
once r x true false f = refl
once r x false b f = refl

module _ (t : Tests) (C : List ℕ) (ch : Batch) where
  abbrev settle : ℕ → ℕ → Edges → Edges
  settle i j E = settle_at t C i j ch (edge i j E) E

  module _ (p q : ℕ) (le : p ≤ q) where
    abbrev run : Option (Option ℕ) → Option (Option ℕ)
    run = map (edge_run t C p q ch)

    -- ---- the turn of the pair of i and j
    settle_at_lem : (i j : ℕ) → i < j → (E : Edges) → edge p q (settle i j E) ≡ cond (eqb p i && eqb q j) (run (edge p q E)) (edge p q E)
    settle_at_lem i j l E = go (ℕ_discrete p i) (ℕ_discrete q j)
      where
        own : (o : Option (Option ℕ)) → edge i j E ≡ o → edge i j (settle_at t C i j ch o E) ≡ map (edge_run t C i j ch) o
        own none e = e
        own (some v) e = link_at i j i j (edge_run t C i j ch v) E ∙ rw (T→true (hits i j i j) (hits_fore i j)) refl

        off : (T (hits p q i j) → ⊥) → (o : Option (Option ℕ)) → edge p q (settle_at t C i j ch o E) ≡ edge p q E
        off n none = refl
        off n (some v) = link_at p q i j (edge_run t C i j ch v) E ∙ rw (notT→false (hits p q i j) n) refl

        only : ((p ≡ i) × (q ≡ j)) ⊎ ((p ≡ j) × (q ≡ i)) → (p ≡ i) × (q ≡ j)
        only (inl h) = h
        only (inr h) = let x = h.0 in let y = h.1 in absurd (omega arith)

        go : Dec (p ≡ i) → Dec (q ≡ j) → edge p q (settle i j E) ≡ cond (eqb p i && eqb q j) (run (edge p q E)) (edge p q E)
        go (yes x) (yes y) = rw (x, y, eqb_yes i, eqb_yes j) (own (edge i j E) refl)
        go (yes x) (no y) = rw (eqb_no q j y, and-false (eqb p i)) (off (λ u. y (only (hits_either p q i j u)).1) (edge i j E))
        go (no x) y = rw (eqb_no p i x) (off (λ u. x (only (hits_either p q i j u)).0) (edge i j E))

    -- ---- one point with those after it
    row_at : (i : ℕ) (js : Points) (lo : ℕ) → Asc lo js → i < lo → (E : Edges) → edge p q (settle_row t C i ch js E) ≡ cond (eqb p i && has q (keys js)) (run (edge p q E)) (edge p q E)
    unfolding settle_row keys has
    row_at i [] lo a h E = rw (and-false (eqb p i)) refl
    row_at i (j ∷ js) lo a h E =
        let x = a.0 in
        let l : i < j.0 = omega arith in
        row_at i js (suc j.0) a.1 (omega arith) (settle i j.0 E)
        ∙ rw (settle_at_lem i j.0 l E, and-or_distrib_left (eqb p i) (eqb q j.0) (has q (keys js))) (once run (edge p q E) (eqb p i && eqb q j.0) (eqb p i && has q (keys js)) clash)
      where
        clash : T (eqb p i && eqb q j.0) → T (eqb p i && has q (keys js)) → ⊥
        clash u v =
            let e : q ≡ j.0 = eqb→eq q j.0 (and_r (eqb p i) (eqb q j.0) u) in
            let l : q < suc j.0 = omega arith in
            asc_miss (suc j.0) q js a.1 l (and_r (eqb p i) (has q (keys js)) v)

    -- ---- all
    all_at : (is : Points) (lo : ℕ) → Asc lo is → (E : Edges) → edge p q (settle_all t C ch is E) ≡ cond (before p q is) (run (edge p q E)) (edge p q E)
    unfolding settle_all
    all_at [] lo a E = refl
    all_at (i ∷ is) lo a E =
        all_at is (suc i.0) a.1 (settle_row t C i.0 ch is E)
        ∙ rw (row_at i.0 is (suc i.0) a.1 (omega arith) E) (once run (edge p q E) (eqb p i.0 && has q (keys is)) (before p q is) clash)
      where
        clash : T (eqb p i.0 && has q (keys is)) → T (before p q is) → ⊥
        clash u v =
            let e : p ≡ i.0 = eqb→eq p i.0 (and_l (eqb p i.0) (has q (keys is)) u) in
            let l : p < suc i.0 = omega arith in
            asc_miss (suc i.0) p is a.1 l (before_has p q is v)

  -- ---- both ends
  settle_twins : (i j : ℕ) (o : Option (Option ℕ)) (E : Edges) → Twins E → Twins (settle_at t C i j ch o E)
  settle_twins i j none E tw = tw
  settle_twins i j (some v) E tw = twins_link i j (edge_run t C i j ch v) E tw

  row_twins : (i : ℕ) (js : Points) (E : Edges) → Twins E → Twins (settle_row t C i ch js E)
  unfolding settle_row
  row_twins i [] E tw = tw
  row_twins i (j ∷ js) E tw = row_twins i js (settle i j.0 E) (settle_twins i j.0 (edge i j.0 E) E tw)

  all_twins : (is : Points) (E : Edges) → Twins E → Twins (settle_all t C ch is E)
  unfolding settle_all
  all_twins [] E tw = tw
  all_twins (i ∷ is) E tw = all_twins is (settle_row t C i.0 ch is E) (row_twins i.0 is E tw)

-- ---- the phase
pub phase4_twins : (t : Tests) (C : List ℕ) (ch : Batch) (ps : Points) (E : Edges) → Twins E → Twins (phase4 t C ch ps E)
unfolding phase4
phase4_twins t C [] ps E tw = tw
phase4_twins t C (c ∷ ch) ps E tw = all_twins t C (c ∷ ch) ps E tw

-- only what is there is changed
map_where : {A : Type 0} (g : A → A) (s : Bool) (o : Option A) → (T (is_some o) → T s) → cond s (map g o) o ≡ map g o
map_where g true o f = refl
map_where g false none f = refl
map_where g false (some a) f = absurd (f tt)

-- Every pair of two points has, from its lesser to its greater cell, its blocker's run over the changes.
pub phase4_run : (t : Tests) (C : List ℕ) (ch : Batch) (ps : Points) → Asc 0 ps → (E : Edges) (p q : ℕ) → p ≤ q
    → (T (is_some (edge p q E)) → (p ≢ q) × T (has p (keys ps)) × T (has q (keys ps))) → edge p q (phase4 t C ch ps E) ≡ map (edge_run t C p q ch) (edge p q E)
unfolding phase4 edge_run
phase4_run t C [] ps a E p q l f = same (edge p q E)
  where
    same : (o : Option (Option ℕ)) → o ≡ map (λ (b : Option ℕ). b) o
    same none = refl
    same (some b) = refl
phase4_run t C (c ∷ ch) ps a E p q l f = all_at t C (c ∷ ch) p q l ps 0 a E ∙ map_where (edge_run t C p q (c ∷ ch)) (before p q ps) (edge p q E) listed
  where
    listed : T (is_some (edge p q E)) → T (before p q ps)
    listed u = let x = f u in let n = x.0 in let h : p < q = omega arith in before_yes p q 0 ps a h x.1 x.2

-- So has every pair, whichever way it is read.
pub phase4_get : (t : Tests) (C : List ℕ) (ch : Batch) (ps : Points) → Asc 0 ps → (E : Edges) → Twins E
    → ((p q : ℕ) → T (is_some (edge p q E)) → (p ≢ q) × T (has p (keys ps)) × T (has q (keys ps)))
    → (p q : ℕ) → (i : ℕ) × (j : ℕ) × (edge p q (phase4 t C ch ps E) ≡ map (edge_run t C i j ch) (edge p q E))
phase4_get t C ch ps a E tw f p q = go (lt_or_ge q p)
  where
    go : (q < p) ⊎ (p ≤ q) → (i : ℕ) × (j : ℕ) × (edge p q (phase4 t C ch ps E) ≡ map (edge_run t C i j ch) (edge p q E))
    go (inl h) =
        let l : q ≤ p = omega arith in
        (q, p, phase4_twins t C ch ps E tw p q ∙ phase4_run t C ch ps a E q p l (f q p) ∙ ap (map (edge_run t C q p ch)) (tw q p))
    go (inr h) = (p, q, phase4_run t C ch ps a E p q h (f p q))
