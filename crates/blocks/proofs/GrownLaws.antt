-- What the trees mean, when a place is planted and when a tree is joined to it. Assumes nothing.
use Prim.Native.Nat.{ℕ, suc, ◌+◌, ◌≤◌, ◌<◌, zero-le}
use native.Mathlib.Nat.{le_refl}
use native.Mathlib.Decide.{ℕ_discrete}
use native.Mathlib.Omega.{arith}
use mathlib.Core.Path.{◌≡◌, sym, ap, subst}
use mathlib.Core.Logic.{◌≢◌, ⊎_elim}
use mathlib.Core.Bool.{cond}
use mathlib.Core.List.{List, ◌∷◌}
use lib.Dec.{T, eqb}
use lib.ListN.{length, get_or, set}
use lib.Seq.{get_or-set_same}
use borrow.Author.Tests.{eq-eqb, ne_eqb}
use Rattle.model.specs.Blocks.{Linked, here, adjacent}
use Rattle.model.specs.Maps.{has, cut}
use Rattle.model.proofs.BlockLaws.{linked_sym, linked_trans}
use Rattle.model.proofs.MapLaws.{has_at, has_cases, has_first, has_later}
use Rattle.model.proofs.MapLaws.{T→true, has_cut_same, has_cut_other}
use Rattle.model.proofs.OrderLaws.{asc_l_cut}
use Rattle.table.proofs.AllLaws.{asc_l_down}
use Rattle.table.proofs.LookLaws.{has_there, there_length}
use Rattle.blocks.specs.Forest.{Down, Root}
use Rattle.blocks.specs.Forest as forest
use Rattle.blocks.specs.Grown.{Grown}
use Rattle.blocks.proofs.ForestLaws.{root_one, root_some, set_below}
use Rattle.blocks.proofs.PlaceLaws.{asc_above}

-- ---- no tree was joined
module _ {C p q : List ℕ} {i m joined : ℕ} (n : ℕ) (d : Down p) (k : (j r : ℕ) → Root p j r → Root q j r) (g : Grown C p i m joined) where
  pub grown_same : n ≡ 0 → Grown C q i m (joined + n)
  grown_same e = record {
    roots = g.roots;
    asc = g.asc;
    count = omega (arith, g.count);
    inside = g.inside;
    fixed = λ r u. k r r (g.fixed r u);
    whole = λ j r a b w. g.whole j r a b (old j r w);
    linked = λ j r a b w. g.linked j r a b (old j r w);
    touching = λ j l r a b h s w. k l r (g.touching j l r a b h s (old j r w));
  }
    where
      old : (j r : ℕ) → Root q j r → Root p j r
      old j r w = let v = root_some p d j in subst (Root p j) (root_one (k j v.0 v.1) w) v.1

-- ---- the tree of `at` was joined to that of i
module _
    {C p q : List ℕ} {i m joined : ℕ} (n at root : ℕ) (d : Down p) (k : (j r : ℕ) → Root p j r → Root q j (cond (eqb r root) i r)) (g : Grown C p i m joined)
    (inside : i < length C) (top : get_or p i 0 ≡ i) (from : Root p at root) (later-on : i ≤ at) (within : at < length C) (link : Linked C (get_or C i 0) (get_or C at 0)) where
  abbrev to : ℕ → ℕ
  to r = cond (eqb r root) i r

  old : (j s : ℕ) → Root q j s → (r : ℕ) × Root p j r × (to r ≡ s)
  old j s w = let v = root_some p d j in (v.0, v.1, root_one (k j v.0 v.1) w)

  left : (r : ℕ) → T (has r (cut root g.roots)) → r ≢ root
  left r u e = let v : T (has root (cut root g.roots)) = subst (λ (x : ℕ). T (has x (cut root g.roots))) e u in rw (has_cut_same root g.roots) at v

  was : (r : ℕ) → T (has r (cut root g.roots)) → T (has r g.roots)
  was r u = rw (has_cut_other r root g.roots (left r u)) at u

  stays : (r : ℕ) → r ≢ root → T (has r g.roots) → T (has r (cut root g.roots))
  stays r o u = rw (has_cut_other r root g.roots o) u

  -- where the root of j is now
  pick : (P : ℕ → Type 0) (r : ℕ) → (r ≡ root → P i) → (r ≢ root → P r) → P (to r)
  pick P r f h = go (ℕ_discrete r root)
    where
      go : Dec (r ≡ root) → P (to r)
      go (yes e) = rw (eq-eqb r root e) (f e)
      go (no o) = rw (ne_eqb r root o) (h o)

  pub grown_moved : i < root → n ≡ 1 → Grown C q i m (joined + n)
  grown_moved less e = record {
    roots = cut root g.roots;
    asc = asc_l_cut i root g.roots g.asc;
    count =
        let t = there_length root g.roots (has_there root g.roots (asc_l_down 0 i g.roots zero-le g.asc) (T→true (has root g.roots) (g.whole at root later-on within from))) in
        omega (arith, g.count);
    inside = λ r u. g.inside r (was r u);
    fixed = λ r u. subst (Root q r) (ap (λ b. cond b i r) (ne_eqb r root (left r u))) (k r r (g.fixed r (was r u)));
    whole = λ j s a b w.
        let v = old j s w in
        subst (λ (x : ℕ). T (has x (cut root g.roots))) v.2
        (pick (λ x. T (has x (cut root g.roots))) v.0
        (λ o. stays i (omega arith) (g.whole i i (le_refl i) inside (forest.here top)))
        (λ o. stays v.0 o (g.whole j v.0 a b v.1)));
    linked = λ j s a b w.
        let v = old j s w in
        let l = g.linked j v.0 a b v.1 in
        subst (λ (x : ℕ). Linked C (get_or C j 0) (get_or C x 0)) v.2
        (pick (λ x. Linked C (get_or C j 0) (get_or C x 0)) v.0
        (λ o. linked_trans (rw o at l) (linked_trans (linked_sym (g.linked at root later-on within from)) (linked_sym link)))
        (λ o. l));
    touching = λ j l s a b h t w. let v = old j s w in subst (Root q l) v.2 (k l v.0 (g.touching j l v.0 a b h t v.1));
  }

-- ---- place i was planted
module _ {C p : List ℕ} {i joined : ℕ} (d : Down p) (room : i < length p) (inside : i < length C) (g : Grown C p (suc i) (suc i) joined) where
  abbrev next : List ℕ
  next = set p i i

  alone : Root next i i
  alone = forest.here (get_or-set_same p i i 0 room)

  later : (j r : ℕ) → T (has r g.roots) → Root p j r → Root next j r
  later j r u w = set_below i i d (asc_above (suc i) r g.roots g.asc u) w

  before : (j r : ℕ) → suc i ≤ j → j < length C → Root next j r → Root p j r
  before j r a b w =
      let v = root_some p d j in
      subst (Root p j) (root_one (later j v.0 (g.whole j v.0 a b v.1) v.1) w) v.1

  -- a place from i on is i, or comes after it
  split : (P : ℕ → Type 0) (j : ℕ) → i ≤ j → P i → (suc i ≤ j → P j) → P j
  split P j a x f = go (ℕ_discrete i j)
    where
      go : Dec (i ≡ j) → P j
      go (yes e) = subst P e x
      go (no o) = f (omega arith)

  pub grown_planted : Grown C next i (suc i) joined
  grown_planted = record {
    roots = i ∷ g.roots;
    asc = (le_refl i, g.asc);
    count = omega (arith, g.count);
    inside = λ r u. ⊎_elim (λ e. rw e inside) (g.inside r) (has_cases r i g.roots u);
    fixed = λ r u. ⊎_elim (λ e. rw e alone) (λ v. later r r v (g.fixed r v)) (has_cases r i g.roots u);
    whole = λ j r a. split (λ j. j < length C → Root next j r → T (has r (i ∷ g.roots))) j a
        (λ b w. rw (root_one w alone) (has_first i g.roots))
        (λ h b w. has_later r i g.roots (g.whole j r h b (before j r h b w)));
    linked = λ j r a. split (λ j. j < length C → Root next j r → Linked C (get_or C j 0) (get_or C r 0)) j a
        (λ b w. rw (root_one w alone) (here (has_at C i inside)))
        (λ h b w. g.linked j r h b (before j r h b w));
    touching = λ j l r a b h s w.
        let v = before j r a (omega arith) w in
        later l r (g.whole j r a (omega arith) v) (g.touching j l r a b h s v);
  }

-- ---- i's own neighbours are of its tree
pub grown_closed : {C p : List ℕ} {i joined : ℕ} → get_or p i 0 ≡ i → Grown C p i (suc i) joined
    → ((l : ℕ) → i < l → l < length C → T (adjacent (get_or C i 0) (get_or C l 0)) → Root p l i) → Grown C p i i joined
grown_closed {C} {p} {i} {joined} top g f = record {
  roots = g.roots;
  asc = g.asc;
  count = g.count;
  inside = g.inside;
  fixed = g.fixed;
  whole = g.whole;
  linked = g.linked;
  touching = touching;
}
  where
    touching : (j l r : ℕ) → i ≤ j → j < l → l < length C → T (adjacent (get_or C j 0) (get_or C l 0)) → Root p j r → Root p l r
    touching j l r a b h s w = go (ℕ_discrete i j)
      where
        go : Dec (i ≡ j) → Root p l r
        go (yes e) = rw (root_one w (subst (λ (x : ℕ). Root p x x) e (forest.here top))) (subst (Root p l) e (f l (omega arith) h (rw (sym e) at s)))
        go (no o) = g.touching j l r (omega arith) b h s w
