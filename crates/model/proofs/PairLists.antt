-- The list of pairs has every held pair once, lesser cell first, ascending, and nothing else. Assumes nothing.
use Prim.Native.Nat.{ℕ, suc, ◌≤◌, ◌<◌, zero-le}
use native.Mathlib.Omega.{arith}
use mathlib.Core.Path.{◌≡◌, refl, sym, ap, ◌∙◌, subst}
use mathlib.Core.Logic.{◌⊎◌, inl, inr, ◌↔◌}
use mathlib.Core.Bool.{◌||◌}
use mathlib.Core.List.{List, [], ◌∷◌, ◌++◌}
use mathlib.Core.Option.{Option, none, some, none-ne-some, some-injective}
use lib.Dec.{T, eqb, eqb→eq, eqb_refl}
use lib.Ieee.{Float}
use Rattle.ieee.proofs.Tools.{lt_or_ge, or_cases}
use Rattle.model.specs.Maps.{keys, has, Asc}
use Rattle.model.specs.Layer.{Points, Edges, Pair, edge, pair_of, pairs_from, pairs}
use Rattle.model.specs.Good.{Good, want}
use Rattle.model.specs.Corner.{any_bit}
use Rattle.model.specs.Map.{Map, Op, shift_of}
use Rattle.model.specs.Refusal.{run, opened}
use Rattle.model.specs.Answers.{all_pairs}
use Rattle.model.proofs.MapLaws.{or_left, or_right, keys_has}
use Rattle.model.proofs.SingleLaws.{asc_above}
use Rattle.model.proofs.Demand3.{demand3}

-- the pair p, q with the blocker b stands in the list
abbrev pub Listed : ℕ → ℕ → Option ℕ → List Pair → Type 0
Listed p q b [] = ⊥
Listed p q b (x ∷ l) = ((x.lesser ≡ p) × (x.greater ≡ q) × (x.block ≡ b)) ⊎ Listed p q b l

-- by the lesser cell, then by the greater: from (p, q) on
abbrev pub Ascending : ℕ → ℕ → List Pair → Type 0
Ascending p q [] = Unit {0}
Ascending p q (x ∷ l) = ((p < x.lesser) ⊎ ((p ≡ x.lesser) × (q ≤ x.greater))) × Ascending x.lesser (suc x.greater) l

module _ (p q : ℕ) (b : Option ℕ) where
  listed_left : (l m : List Pair) → Listed p q b l → Listed p q b (l ++ m)
  listed_left [] m u = absurd u
  listed_left (x ∷ l) m (inl u) = inl u
  listed_left (x ∷ l) m (inr u) = inr (listed_left l m u)

  listed_right : (l m : List Pair) → Listed p q b m → Listed p q b (l ++ m)
  listed_right [] m u = u
  listed_right (x ∷ l) m u = inr (listed_right l m u)

  listed_either : (l m : List Pair) → Listed p q b (l ++ m) → Listed p q b l ⊎ Listed p q b m
  listed_either [] m u = inr u
  listed_either (x ∷ l) m (inl u) = inl (inl u)
  listed_either (x ∷ l) m (inr u) = go (listed_either l m u)
    where
      go : Listed p q b l ⊎ Listed p q b m → Listed p q b (x ∷ l) ⊎ Listed p q b m
      go (inl v) = inl (inr v)
      go (inr v) = inr v

  -- one pair
  one_there : (i j : ℕ) (o : Option (Option ℕ)) → Listed p q b (pair_of i j o) → (i ≡ p) × (j ≡ q) × (o ≡ some b)
  one_there i j none u = absurd u
  one_there i j (some v) (inl u) = (u.0, u.1, ap some u.2)
  one_there i j (some v) (inr u) = absurd u

  one_back : (o : Option (Option ℕ)) → o ≡ some b → Listed p q b (pair_of p q o)
  one_back none e = absurd (none-ne-some b e)
  one_back (some v) e = inl (refl, refl, some-injective v b e)

  -- the pairs of i with the later points
  row_there : (i : ℕ) (qs : Points) (e : Edges) → Listed p q b (pairs_from i qs e) → (i ≡ p) × T (has q (keys qs)) × (edge p q e ≡ some b)
  unfolding pairs_from keys has
  row_there i [] e u = absurd u
  row_there i (j ∷ qs) e u = go (listed_either (pair_of i j.0 (edge i j.0 e)) (pairs_from i qs e) u) (row_there i qs e)
    where
      go : Listed p q b (pair_of i j.0 (edge i j.0 e)) ⊎ Listed p q b (pairs_from i qs e)
          → (Listed p q b (pairs_from i qs e) → (i ≡ p) × T (has q (keys qs)) × (edge p q e ≡ some b)) → (i ≡ p) × T (eqb q j.0 || has q (keys qs)) × (edge p q e ≡ some b)
      go (inl v) ih =
          let r = one_there i j.0 (edge i j.0 e) v in
          (r.0, or_left (eqb q j.0) (has q (keys qs)) (rw r.1 (eqb_refl q)), ap (λ (z : ℕ). edge z q e) (sym r.0) ∙ ap (λ (z : ℕ). edge i z e) (sym r.1) ∙ r.2)
      go (inr v) ih = let r = ih v in (r.0, or_right (eqb q j.0) (has q (keys qs)) r.1, r.2)

  row_back : (qs : Points) (e : Edges) → T (has q (keys qs)) → edge p q e ≡ some b → Listed p q b (pairs_from p qs e)
  unfolding pairs_from keys has
  row_back [] e u f = absurd u
  row_back (j ∷ qs) e u f = go (or_cases (eqb q j.0) (has q (keys qs)) u) (row_back qs e)
    where
      rest : List Pair
      rest = pairs_from p qs e

      go : T (eqb q j.0) ⊎ T (has q (keys qs)) → (T (has q (keys qs)) → edge p q e ≡ some b → Listed p q b (pairs_from p qs e)) → Listed p q b (pair_of p j.0 (edge p j.0 e) ++ pairs_from p qs e)
      go (inl v) ih =
          listed_left (pair_of p j.0 (edge p j.0 e)) (pairs_from p qs e) (subst (λ (z : ℕ). Listed p q b (pair_of p z (edge p z e))) (eqb→eq q j.0 v) (one_back (edge p q e) f))
      go (inr v) ih = listed_right (pair_of p j.0 (edge p j.0 e)) (pairs_from p qs e) (ih v f)

  -- all of them
  all_there : (lo : ℕ) (ps : Points) (e : Edges) → Asc lo ps → Listed p q b (pairs ps e) → (p < q) × (edge p q e ≡ some b)
  unfolding pairs
  all_there lo [] e a u = absurd u
  all_there lo (i ∷ ps) e a u = go (listed_either (pairs_from i.0 ps e) (pairs ps e) u) (all_there (suc i.0) ps e a.1)
    where
      go : Listed p q b (pairs_from i.0 ps e) ⊎ Listed p q b (pairs ps e) → (Listed p q b (pairs ps e) → (p < q) × (edge p q e ≡ some b)) → (p < q) × (edge p q e ≡ some b)
      go (inl v) ih = let r = row_there i.0 ps e v in (subst (λ (z : ℕ). z < q) r.0 (asc_above (suc i.0) q ps a.1 r.1), r.2)
      go (inr v) ih = ih v

  all_back : (lo : ℕ) (ps : Points) (e : Edges) → Asc lo ps → T (has p (keys ps)) → T (has q (keys ps)) → p < q → edge p q e ≡ some b → Listed p q b (pairs ps e)
  unfolding pairs keys has
  all_back lo [] e a u v l f = absurd u
  all_back lo (i ∷ ps) e a u v l f = go (or_cases (eqb p i.0) (has p (keys ps)) u) (or_cases (eqb q i.0) (has q (keys ps)) v) (all_back (suc i.0) ps e a.1)
    where
      go : T (eqb p i.0) ⊎ T (has p (keys ps)) → T (eqb q i.0) ⊎ T (has q (keys ps))
          → (T (has p (keys ps)) → T (has q (keys ps)) → p < q → edge p q e ≡ some b → Listed p q b (pairs ps e)) → Listed p q b (pairs_from i.0 ps e ++ pairs ps e)
      go (inl x) (inl y) ih = absurd (let g = eqb→eq p i.0 x in let h = eqb→eq q i.0 y in let z : ⊥ = omega arith in z)
      go (inl x) (inr y) ih = listed_left (pairs_from i.0 ps e) (pairs ps e) (subst (λ (z : ℕ). Listed p q b (pairs_from z ps e)) (eqb→eq p i.0 x) (row_back ps e y f))
      go (inr x) (inl y) ih = absurd (let g = eqb→eq q i.0 y in let h = asc_above (suc i.0) p ps a.1 x in let z : ⊥ = omega arith in z)
      go (inr x) (inr y) ih = listed_right (pairs_from i.0 ps e) (pairs ps e) (ih x y l f)

-- ---- order
weaken : (p q p' q' : ℕ) (l : List Pair) → (p' < p) ⊎ ((p' ≡ p) × (q' ≤ q)) → Ascending p q l → Ascending p' q' l
weaken p q p' q' [] h a = tt
weaken p q p' q' (x ∷ l) h a = (go h a.0, a.1)
  where
    go : (p' < p) ⊎ ((p' ≡ p) × (q' ≤ q)) → (p < x.lesser) ⊎ ((p ≡ x.lesser) × (q ≤ x.greater)) → (p' < x.lesser) ⊎ ((p' ≡ x.lesser) × (q' ≤ x.greater))
    go (inl u) (inl v) = inl (omega arith)
    go (inl u) (inr v) = inl (let e = v.0 in omega arith)
    go (inr u) (inl v) = inl (let e = u.0 in omega arith)
    go (inr u) (inr v) = inr (u.0 ∙ v.0, let g = u.1 in let h = v.1 in omega arith)

row_ascends : (i lo : ℕ) (qs : Points) (e : Edges) (m : List Pair) → Asc lo qs → ((k : ℕ) → Ascending i k m) → Ascending i lo (pairs_from i qs e ++ m)
unfolding pairs_from
row_ascends i lo [] e m a f = f lo
row_ascends i lo (j ∷ qs) e m a f = go (edge i j.0 e) (row_ascends i (suc j.0) qs e m a.1 f)
  where
    go : (o : Option (Option ℕ)) → Ascending i (suc j.0) (pairs_from i qs e ++ m) → Ascending i lo ((pair_of i j.0 o ++ pairs_from i qs e) ++ m)
    go none r = weaken i (suc j.0) i lo (pairs_from i qs e ++ m) (inr (refl, let h = a.0 in omega arith)) r
    go (some b) r = (inr (refl, a.0), r)

all_ascend : (p lo : ℕ) (ps : Points) (e : Edges) → Asc lo ps → p < lo → (k : ℕ) → Ascending p k (pairs ps e)
unfolding pairs
all_ascend p lo [] e a h k = tt
all_ascend p lo (i ∷ ps) e a h k =
    let g = a.0 in
    weaken i.0 (suc i.0) p k (pairs_from i.0 ps e ++ pairs ps e) (inl (omega arith))
    (row_ascends i.0 (suc i.0) ps e (pairs ps e) a.1 (all_ascend i.0 (suc i.0) ps e a.1 (omega arith)))

first_ascends : (ps : Points) (e : Edges) → Asc 0 ps → Ascending 0 0 (pairs ps e)
unfolding pairs
first_ascends [] e a = tt
first_ascends (i ∷ ps) e a =
    weaken i.0 (suc i.0) 0 0 (pairs_from i.0 ps e ++ pairs ps e) (start (lt_or_ge 0 i.0))
    (row_ascends i.0 (suc i.0) ps e (pairs ps e) a.1 (all_ascend i.0 (suc i.0) ps e a.1 (omega arith)))
  where
    start : (0 < i.0) ⊎ (i.0 ≤ 0) → (0 < i.0) ⊎ ((0 ≡ i.0) × (0 ≤ suc i.0))
    start (inl u) = inl u
    start (inr u) = inr (omega arith, zero-le)

-- ---- After every run the list of pairs is ascending, so it has each pair once.
pub pairs_ascend : (c r : Float) (os : List Op) → Ascending 0 0 (all_pairs (run os (opened c r)))
unfolding all_pairs
pairs_ascend c r os = first_ascends (run os (opened c r)).layer.points (run os (opened c r)).layer.edges (demand3 c r os).good.point_order

-- ---- And it has exactly the held pairs, lesser cell first, each with its blocker.
pub pairs_listed : (c r : Float) (os : List Op) (p q : ℕ) (b : Option ℕ)
    → Listed p q b (all_pairs (run os (opened c r))) ↔ ((p < q) × (edge p q (run os (opened c r)).layer.edges ≡ some b))
unfolding all_pairs
pairs_listed c r os p q b = go (run os (opened c r)) (demand3 c r os).good
  where
    go : (m : Map) → Good (shift_of m.size m.layer.radius) m.cells m.layer
        → Listed p q b (pairs m.layer.points m.layer.edges) ↔ ((p < q) × (edge p q m.layer.edges ≡ some b))
    go m g = (
      all_there p q b 0 m.layer.points m.layer.edges g.point_order,
      λ u. let J = (g.pairs p q).0 (rw u.1 tt) in
          all_back p q b 0 m.layer.points m.layer.edges g.point_order (point p J.one) (point q J.other) u.0 u.1,
    )
      where
        point : (k : ℕ) → T (any_bit (want (shift_of m.size m.layer.radius) m.cells k)) → T (has k (keys m.layer.points))
        point k u = rw (keys_has k m.layer.points, g.real k, g.points k) u
