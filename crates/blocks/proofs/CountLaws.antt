-- When all places are planted, there are as many roots as blocks. Assumes nothing.
use Prim.Native.Nat.{ℕ, zero, suc, ◌+◌, ◌*◌, ◌≤◌, ◌<◌, zero-le}
use native.Mathlib.Nat.{le_antisymm, le_refl}
use native.Mathlib.Decide.{ℕ_discrete, dec_lt}
use native.Mathlib.Omega.{arith}
use mathlib.Core.Path.{◌≡◌, refl, sym, ◌∙◌, subst}
use mathlib.Core.List.{List, []}
use lib.Dec.{T}
use lib.ListN.{length, get_or, replicate}
use Rattle.model.specs.Blocks.{Blocks, Linked, here, on, adjacent, block_count, blocks_of}
use Rattle.model.specs.Maps.{AscL, has}
use Rattle.model.proofs.BlockLaws.{adjacent_sym, linked_end, linked_sym, linked_trans, pigeonhole}
use Rattle.model.proofs.Blocks.{blocks_right}
use Rattle.model.proofs.MapLaws.{has_at}
use Rattle.blocks.specs.Forest.{Down, Root}
use Rattle.blocks.specs.Grown.{Grown}
use Rattle.blocks.proofs.ForestLaws.{root_one, root_some}
use Rattle.blocks.proofs.PlaceLaws.{asc_one, has_place}

-- ---- before any place is planted
pub zeros_down : (n : ℕ) → Down (replicate n 0)
zeros_down zero i = zero-le
zeros_down (suc n) zero = zero-le
zeros_down (suc n) (suc i) = let h = zeros_down n i in omega arith

pub grown_none : (C p : List ℕ) → Grown C p (length C) (length C) 0
unfolding has
grown_none C p = record {
  roots = [];
  asc = tt;
  count = omega arith;
  inside = λ r u. absurd u;
  fixed = λ r u. absurd u;
  whole = λ j r a b. absurd (omega arith);
  linked = λ j r a b. absurd (omega arith);
  touching = λ j l r a b h. absurd (omega arith);
}

-- ---- all places are planted
module _ (C p : List ℕ) (joined : ℕ) (a : AscL 0 C) (d : Down p) (g : Grown C p 0 0 joined) where
  side : (j l r : ℕ) → j < length C → l < length C → T (adjacent (get_or C j 0) (get_or C l 0)) → Root p j r → Root p l r
  side j l r b h s w = go (dec_lt j l) (dec_lt l j)
    where
      go : Dec (j < l) → Dec (l < j) → Root p l r
      go (yes x) y = g.touching j l r zero-le x h s w
      go (no x) (yes y) =
          let v = root_some p d l in
          let z = g.touching l j v.0 zero-le y b (rw (adjacent_sym (get_or C j 0) (get_or C l 0)) at s) v.1 in
          subst (Root p l) (root_one z w) v.1
      go (no x) (no y) = let e : j ≡ l = omega arith in subst (λ (x : ℕ). Root p x r) e w

  -- linked cells are of one tree
  one_tree : {x y : ℕ} → Linked C x y → (j l r : ℕ) → j < length C → l < length C → get_or C j 0 ≡ x → get_or C l 0 ≡ y → Root p j r → Root p l r
  one_tree (here h) j l r b k e f w = subst (λ (x : ℕ). Root p x r) (asc_one C a j l b k (e ∙ sym f)) w
  one_tree (on {b = y} {c = z} q s h) j l r b k e f w =
      let v = has_place y C (linked_end q) in
      side v.0 l r v.1 k (rw (v.2, f) s) (one_tree q j v.0 r b v.1 e v.2 w)

  module _ (bs : List (List ℕ)) (B : Blocks C bs) where
    -- each root lies in a block of its own
    root_at : (s : ℕ) → s < length g.roots → get_or g.roots s 0 < length C
    root_at s h = g.inside (get_or g.roots s 0) (has_at g.roots s h)

    block_at : (s : ℕ) (h : s < length g.roots) → (t : ℕ) × (t < length bs) × T (has (get_or C (get_or g.roots s 0) 0) (get_or bs t []))
    block_at s h = B.covered (get_or C (get_or g.roots s 0) 0) (has_at C (get_or g.roots s 0) (root_at s h))

    own_block : (s t : ℕ) (h : s < length g.roots) (k : t < length g.roots) → (block_at s h).0 ≡ (block_at t k).0 → s ≡ t
    own_block s t h k e =
        let x = get_or g.roots s 0 in
        let y = get_or g.roots t 0 in
        let q : Linked C (get_or C x 0) (get_or C y 0) = B.linked (block_at s h).0 (block_at s h).1 (get_or C x 0) (get_or C y 0) (block_at s h).2 (rw e (block_at t k).2) in
        let w : Root p y x = one_tree q x y x (root_at s h) (root_at t k) refl refl (g.fixed x (has_at g.roots s h)) in
        asc_one g.roots g.asc s t h k (root_one w (g.fixed y (has_at g.roots t k)))

    -- each block has a root of its own
    cell_at : (t : ℕ) (h : t < length bs) → (j : ℕ) × (j < length C) × (get_or C j 0 ≡ (B.filled t h).0)
    cell_at t h =
        let c = B.filled t h in
        has_place c.0 C (linked_end (B.linked t h c.0 c.0 c.1 c.1))

    tree_at : (t : ℕ) (h : t < length bs) → (s : ℕ) × (s < length g.roots) × Linked C (B.filled t h).0 (get_or C (get_or g.roots s 0) 0)
    tree_at t h =
        let j = cell_at t h in
        let v = root_some p d j.0 in
        let s = has_place v.0 g.roots (g.whole j.0 v.0 zero-le j.1 v.1) in
        (s.0, s.1, rw s.2 (subst (λ (x : ℕ). Linked C x (get_or C v.0 0)) j.2 (g.linked j.0 v.0 zero-le j.1 v.1)))

    own_tree : (s t : ℕ) (h : s < length bs) (k : t < length bs) → (tree_at s h).0 ≡ (tree_at t k).0 → s ≡ t
    own_tree s t h k e = go (ℕ_discrete s t)
      where
        q : Linked C (B.filled s h).0 (B.filled t k).0
        q = linked_trans (tree_at s h).2 (rw e (linked_sym (tree_at t k).2))

        go : Dec (s ≡ t) → s ≡ t
        go (yes o) = o
        go (no o) = absurd (B.apart s t h k o (B.filled s h).0 (B.filled t k).0 (B.filled s h).1 (B.filled t k).1 q)

    as_many : length g.roots ≡ length bs
    as_many =
        le_antisymm
        (pigeonhole (length g.roots) (length bs) (λ s h. (block_at s h).0) (λ s h. (block_at s h).1) own_block)
        (pigeonhole (length bs) (length g.roots) (λ t h. (tree_at t h).0) (λ t h. (tree_at t h).1) own_tree)

  pub grown_count : joined + block_count C ≡ length C
  unfolding block_count
  grown_count = let e = as_many (blocks_of C) (blocks_right C a) in omega (arith, g.count)

-- ---- the loop: places from i on are planted
pub record Counting (C p : List ℕ) (i joined : ℕ) : Type 0 where
  pub inside : i ≤ length C
  pub few : joined + 2 * i ≤ 2 * length C
  pub grown : AscL 0 C → Grown C p i i joined

pub counting_none : (C p : List ℕ) → Counting C p (length C) 0
counting_none C p = record { inside = le_refl (length C); few = omega arith; grown = λ a. grown_none C p }

pub counting_done : {C p : List ℕ} {i joined : ℕ} → Down p → Counting C p i joined → i ≤ 0 → AscL 0 C → joined + block_count C ≡ length C
counting_done {C} {p} {i} {joined} d c h a =
    let e : i ≡ 0 = omega arith in
    grown_count C p joined a d (subst (λ (x : ℕ). Grown C p x x joined) e (c.grown a))
