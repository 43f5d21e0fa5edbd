-- The table of pairs of which only the used rows are cleared, copied and written. Assumes nothing.
use Prim.Native.Nat.{ℕ, ◌*◌, ◌≤◌, ◌<◌, zero-le}
use native.Mathlib.Omega.{arith}
use mathlib.Core.Path.{◌≡◌, refl, sym, ap, ◌∙◌, subst}
use mathlib.Core.Logic.{⊎_elim}
use mathlib.Core.List.{List, [], ◌++◌, append-nil}
use mathlib.Core.Option.{none}
use lib.ListN.{get_or-eq_default, drop, drop_of_length-le, get_or, length, length-replicate, replicate, take}
use lib.Seq.{get_or-take, length-take-le}
use borrow.Author.Tests.{le-ltb}
use Rattle.held.specs.Layers.{HoldsLayer, edge_at}
use Rattle.held.proofs.LayerLaws.{layer_few}
use Rattle.ieee.proofs.Tools.{lt_or_ge}
use Rattle.model.specs.Layer.{Layer}
use Rattle.model.specs.Limits.{max_points}
use Rattle.held.specs.Codes.{pair_code}
use Rattle.sight.specs.Paired.{Filled}
use Rattle.held.specs.Pairs.{Pairs, PairsBy, PairsNamed, pair_place, pair_places}
use Rattle.table.specs.Copied.{Copied}
use Rattle.visibility.specs.Redraw.{Below, InRows}
use Rattle.visibility.proofs.ClearLaws.{cleared, cleared_at, cleared_drop, cleared_is, cleared_length, cleared_past}

-- no pairs at all: the empty table has them
pub none_named : (P : PairsBy) → Below 0 P → PairsNamed P
none_named P b i j = rw (b i j zero-le) tt

pub none_pairs : (P : PairsBy) → Below 0 P → Pairs P []
none_pairs P b i j x y = ap pair_code (sym (b i j zero-le))

module _ (n : ℕ) (P : PairsBy) (t : List ℕ) (w : InRows n P t) where
  -- more rows
  pub rows_more : (m : ℕ) → n ≤ m → m ≤ max_points → InRows m P t
  rows_more m h k = record { room = w.room; rows = k; pairs = w.pairs; below = λ i j x. w.below i j (omega arith) }

  -- with its rows cleared the table is empty
  rows_cleared : Pairs (λ i j. none) (cleared (64 * n) t)
  rows_cleared i j x y =
      ⊎_elim (λ l. cleared_at (64 * n) t (pair_place i j) (omega arith)) (λ l. cleared_past (64 * n) t (pair_place i j) (omega arith) ∙ w.pairs i j x y ∙ ap pair_code (w.below i j l)) (lt_or_ge i n)

  rows_filled : (Q : PairsBy) (t' : List ℕ) → Filled Q (cleared (64 * n) t) t' → Filled Q t t'
  rows_filled Q t' f =
      let h : 64 * n ≤ length t = omega (arith, w.rows, w.room) in
      let k : 64 * n ≤ pair_places = omega (arith, w.rows) in
      record { same = f.same ∙ cleared_length (64 * n) t h; pairs = f.pairs; rest = f.rest ∙ cleared_drop (64 * n) pair_places t k }

  -- its rows are cleared by u, and the pairs of s points written then
  pub rows_drawn : (Q : PairsBy) (u t' : List ℕ) (s : ℕ) → u ≡ replicate (length (take (64 * n) t)) 0 → s ≤ n
      → (max_points * s ≤ length (u ++ drop (64 * n) t) → s ≤ max_points → Pairs (λ i j. none) (u ++ drop (64 * n) t) → Filled Q (u ++ drop (64 * n) t) t') → Filled Q t t'
  rows_drawn Q u t' s e k f =
      let h : 64 * n ≤ length t = omega (arith, w.rows, w.room) in
      let g : max_points * s ≤ length (cleared (64 * n) t) → s ≤ max_points → Pairs (λ i j. none) (cleared (64 * n) t) → Filled Q (cleared (64 * n) t) t' =
      subst (λ (v : List ℕ). max_points * s ≤ length v → s ≤ max_points → Pairs (λ i j. none) v → Filled Q v t') (cleared_is (64 * n) t u h e) f in
      let r : max_points * s ≤ length t = omega (arith, w.rows, w.room) in
      rows_filled Q t' (g (rw (cleared_length (64 * n) t h) r) (omega (arith, w.rows)) rows_cleared)

  -- a copy of its rows has its pairs
  rows_kept : (k : ℕ) → 64 * n ≤ k → k ≤ length t → Pairs P (take k t)
  rows_kept k h l i j x y = ⊎_elim inside past (lt_or_ge (pair_place i j) k)
    where
      inside : pair_place i j < k → get_or (take k t) (pair_place i j) 0 ≡ pair_code (P i j)
      inside u = get_or-take k t (pair_place i j) 0 u ∙ w.pairs i j x y

      past : k ≤ pair_place i j → get_or (take k t) (pair_place i j) 0 ≡ pair_code (P i j)
      past u =
          let e : length (take k t) ≤ pair_place i j = rw (length-take-le k t l) u in
          let b : n ≤ i = omega arith in
          get_or-eq_default (take k t) 0 e ∙ ap pair_code (sym (w.below i j b))

  pub rows_copied : (k : ℕ) (v : List ℕ) → 64 * n ≤ k → k ≤ length t → Copied (take k t) (replicate k 0) v → Pairs P v
  rows_copied k v h l c =
      let z : List ℕ = replicate k 0 in
      let e : length (take k t) ≡ k = length-take-le k t l in
      let f : length z ≡ k = length-replicate {A = ℕ} k 0 in
      let b : length z ≤ k = omega (arith, f) in
      let a : v ≡ take k t = c.done (omega (arith, e, f)) ∙ rw (e, drop_of_length-le z {i = k} b) (append-nil (take k t)) in
      rw a (rows_kept k h l)

-- ---- a layer's pairs are in the rows of its points
pub edges_below : (l : Layer) → Below (length l.points) (edge_at l)
unfolding edge_at
edges_below l i j h = rw (le-ltb i (length l.points) h) refl

pub layer_rows : {points statuses blockers pairs : List ℕ} {n : ℕ} {l : Layer} → HoldsLayer points statuses blockers pairs n l → InRows n (edge_at l) pairs
layer_rows {l = l} h = record { room = h.pairs_room; rows = layer_few h; pairs = h.pairs_are; below = rw h.count (edges_below l) }
