-- What the tables tell of the pair of two points, and the pairs of a point one after another. Assumes nothing.
use Prim.Native.Nat.{ℕ, zero, suc, ◌+◌, ◌*◌, ◌≤◌, ◌<◌}
use native.Mathlib.Nat.{suc-ne-zero}
use native.Mathlib.Numerals.{add-one}
use native.Mathlib.Omega.{arith}
use mathlib.Core.Path.{◌≡◌, refl, sym, ap, ◌∙◌}
use mathlib.Core.Bool.{Bool, true, false, ◌&&◌}
use mathlib.Core.List.{List, [], ◌∷◌, ◌++◌}
use mathlib.Core.Option.{Option, none, some}
use lib.ListN.{drop, drop_of_length-le, get_or, length}
use lib.Seq.{drop-cons}
use borrow.Author.Tests.{lt-ltb}
use Rattle.model.specs.Answers.{free, free_at, is_open}
use Rattle.model.specs.Layer.{Edges, Layer, Pair, Points, edge, pair_of, pairs, pairs_from}
use Rattle.model.specs.Maps.{get, keys, sift}
use Rattle.model.proofs.OrderLaws.{Within, asc_within}
use Rattle.held.specs.Codes.{NamedPair, block_code, pair_code}
use Rattle.table.proofs.ListedLaws.{keys_length}
use Rattle.held.specs.Layers.{edge_at}
use Rattle.answers.specs.Walks.{Shown, ShownOpen, row_from, row_of}
use Rattle.answers.proofs.PointLaws.{key_at_lem, nowhere, point_at, reads_blocked, reads_free, unblocked}
use Rattle.model.proofs.SiftLaws.{sift_append, sift_nil, sift_one, sift_out}

-- ---- a pair by its code
abbrev pub block_of : Option (Option ℕ) → Option ℕ
block_of none = none
block_of (some b) = b

abbrev pub pair_with : ℕ → ℕ → Option (Option ℕ) → Pair
pair_with p q o = record { lesser = p; greater = q; block = block_of o }

zero_none : (p q : ℕ) (o : Option (Option ℕ)) → NamedPair o → pair_code o ≡ 0 → pair_of p q o ≡ []
zero_none p q none n e = refl
zero_none p q (some none) n e = absurd (omega (arith, e))
zero_none p q (some (some k)) n e = absurd (omega (arith, n, e))

other_some : (p q : ℕ) (o : Option (Option ℕ)) → (pair_code o ≡ 0 → ⊥) → pair_of p q o ≡ pair_with p q o ∷ []
other_some p q none f = absurd (f refl)
other_some p q (some b) f = refl

one_free : (o : Option (Option ℕ)) → NamedPair o → pair_code o ≡ 1 → block_of o ≡ none
one_free none n e = refl
one_free (some none) n e = refl
one_free (some (some k)) n e = absurd (omega (arith, n, e))

other_blocked : (o : Option (Option ℕ)) → (pair_code o ≡ 0 → ⊥) → (pair_code o ≡ 1 → ⊥) → pair_code o ≡ block_code (block_of o)
other_blocked none f g = absurd (f refl)
other_blocked (some none) f g = absurd (g refl)
other_blocked (some (some k)) f g = refl

-- ---- the pairs that a test keeps of one
module _ (K : Pair → Bool) (p q : ℕ) where
  kept_one : (o : Option (Option ℕ)) → (pair_code o ≡ 0 → ⊥) → K (pair_with p q o) ≡ true → sift K (pair_of p q o) ≡ pair_with p q o ∷ []
  kept_one none f k = absurd (f refl)
  kept_one (some b) f k = sift_one K (pair_with p q (some b)) k

  kept_none : (o : Option (Option ℕ)) → K (pair_with p q o) ≡ false → sift K (pair_of p q o) ≡ []
  kept_none none k = sift_nil K
  kept_none (some b) k = sift_out K (pair_with p q (some b)) k

-- those of a row, where it keeps none with this lesser end
row_none : (K : Pair → Bool) (p : ℕ) (e : Edges) → ((q : ℕ) (o : Option (Option ℕ)) → K (pair_with p q o) ≡ false) → (qs : Points) → sift K (pairs_from p qs e) ≡ []
unfolding pairs_from
row_none K p e f [] = sift_nil K
row_none K p e f (q ∷ qs) =
    sift_append K (pair_of p q.0 (edge p q.0 e)) (pairs_from p qs e) ∙ rw (kept_none K p q.0 (edge p q.0 e) (f q.0 (edge p q.0 e))) (row_none K p e f qs)

-- ---- the pair of the points at two places
abbrev key_at : Layer → ℕ → ℕ
key_at l i = get_or (keys l.points) i 0

abbrev edge_of : Layer → ℕ → ℕ → Option (Option ℕ)
edge_of l i j = edge (key_at l i) (key_at l j) l.edges

abbrev pub pair_at : Layer → ℕ → ℕ → Pair
pair_at l i j = pair_with (key_at l i) (key_at l j) (edge_of l i j)

row_next : (l : Layer) (i j : ℕ) → j < length l.points → row_from l i j ≡ pair_of (key_at l i) (key_at l j) (edge_of l i j) ++ row_from l i (j + 1)
unfolding pairs_from
row_next l i j h =
    let ps : Points = l.points in
    ap (λ (r : Points). pairs_from (key_at l i) r l.edges) (drop-cons ps j nowhere h) ∙ rw (key_at_lem ps j, add-one j) refl

pub pairs_next : (l : Layer) (i : ℕ) → i < length l.points → pairs (drop i l.points) l.edges ≡ row_of l i ++ pairs (drop (i + 1) l.points) l.edges
unfolding pairs
pairs_next l i h =
    let ps : Points = l.points in
    ap (λ (r : Points). pairs r l.edges) (drop-cons ps i nowhere h) ∙ rw (key_at_lem ps i, add-one i) refl

pub row_end : (l : Layer) (i j : ℕ) (points : List ℕ) → points ≡ keys l.points → length points ≤ j → row_from l i j ≡ []
unfolding pairs_from
row_end l i j points e h =
    let x : length points ≡ length l.points = ap length e ∙ keys_length l.points in
    let g : length l.points ≤ j = omega (arith, x, h) in
    ap (λ (r : Points). pairs_from (key_at l i) r l.edges) (drop_of_length-le l.points g)

pub pairs_end : (l : Layer) (i : ℕ) (points : List ℕ) → points ≡ keys l.points → length points ≤ i → pairs (drop i l.points) l.edges ≡ []
unfolding pairs
pairs_end l i points e h =
    let x : length points ≡ length l.points = ap length e ∙ keys_length l.points in
    let g : length l.points ≤ i = omega (arith, x, h) in
    ap (λ (r : Points). pairs r l.edges) (drop_of_length-le l.points g)

-- ---- as the tables tell it
module _ (l : Layer) (points table : List ℕ) (s : Shown l points table) where
  pub inside : (i : ℕ) → i < length points → i < length l.points
  inside i h = let x : length points ≡ length l.points = ap length s.keys_are ∙ keys_length l.points in omega (arith, x, h)

  pub reads_key : (i : ℕ) → get_or points i 0 ≡ key_at l i
  reads_key i = ap (λ (t : List ℕ). get_or t i 0) s.keys_are

  module _ (i j : ℕ) (hi : i < length points) (hj : j < length points) where
    at_is : edge_at l i j ≡ edge_of l i j
    unfolding edge_at
    at_is = rw (lt-ltb i (length l.points) (inside i hi), lt-ltb j (length l.points) (inside j hj)) refl

    code : get_or table (64 * i + j) 0 ≡ pair_code (edge_of l i j)
    code =
        let x = inside i hi in
        let y = inside j hj in
        let z = s.room in
        s.pairs_are i j (omega (arith, x, z)) (omega (arith, y, z)) ∙ ap pair_code at_is

    named : NamedPair (edge_of l i j)
    named = rw at_is at (s.named i j)

    -- all pairs
    pub reads_none : get_or table (64 * i + j) 0 ≡ 0 → row_from l i j ≡ row_from l i (j + 1)
    reads_none e = row_next l i j (inside j hj) ∙ ap (λ (u : List Pair). u ++ row_from l i (j + 1)) (zero_none (key_at l i) (key_at l j) (edge_of l i j) named (sym code ∙ e))

    pub reads_some : (get_or table (64 * i + j) 0 ≡ 0 → ⊥) → row_from l i j ≡ (pair_at l i j ∷ []) ++ row_from l i (j + 1)
    reads_some f = row_next l i j (inside j hj) ∙ ap (λ (u : List Pair). u ++ row_from l i (j + 1)) (other_some (key_at l i) (key_at l j) (edge_of l i j) (λ e. f (code ∙ e)))

    -- its blocker
    pub reads_clear : get_or table (64 * i + j) 0 ≡ 1 → 0 ≡ block_code (pair_at l i j).block
    reads_clear e = sym (ap block_code (one_free (edge_of l i j) named (sym code ∙ e)))

    pub reads_blocker : (get_or table (64 * i + j) 0 ≡ 0 → ⊥) → (get_or table (64 * i + j) 0 ≡ 1 → ⊥) → get_or table (64 * i + j) 0 ≡ block_code (pair_at l i j).block
    reads_blocker f g = code ∙ other_blocked (edge_of l i j) (λ e. f (code ∙ e)) (λ e. g (code ∙ e))

    -- those that a test keeps
    module _ (K : Pair → Bool) where
      kept_next : (u : List Pair) → sift K (pair_of (key_at l i) (key_at l j) (edge_of l i j)) ≡ u → sift K (row_from l i j) ≡ u ++ sift K (row_from l i (j + 1))
      kept_next u e =
          ap (sift K) (row_next l i j (inside j hj)) ∙ sift_append K (pair_of (key_at l i) (key_at l j) (edge_of l i j)) (row_from l i (j + 1))
          ∙ ap (λ (w : List Pair). w ++ sift K (row_from l i (j + 1))) e

-- ---- the open ones
within_at : (m r : Points) (i : ℕ) → Within m r → i < length r → get (point_at r i).0 m ≡ some (point_at r i).1
within_at m [] i w h = absurd (omega (arith, h))
within_at m (e ∷ r) zero w h = w.0
within_at m (e ∷ r) (suc i) w h = within_at m r i w.1 (omega (arith, h))

left_shut : (a b : Bool) → (a && false && b) ≡ false
left_shut true b = refl
left_shut false b = refl

right_shut : (a b : Bool) → (a && b && false) ≡ false
right_shut true true = refl
right_shut true false = refl
right_shut false true = refl
right_shut false false = refl

module _ (l : Layer) (points blockers table : List ℕ) (s : ShownOpen l points blockers table) where
  abbrev K : Pair → Bool
  K = is_open l.points

  free_at_lem : (i : ℕ) → i < length points → free_at (get (key_at l i) l.points) ≡ unblocked (point_at l.points i)
  free_at_lem i h =
      rw (key_at_lem l.points i, within_at l.points l.points i (asc_within 0 l.points s.order) (inside l points table s.shown i h)) refl

  is_free : (i : ℕ) → i < length points → get_or blockers i 0 ≡ 0 → free_at (get (key_at l i) l.points) ≡ true
  is_free i h z = free_at_lem i h ∙ reads_free blockers l.points i s.blocks_are s.all_named z

  is_shut : (i : ℕ) → i < length points → (get_or blockers i 0 ≡ 0 → ⊥) → free_at (get (key_at l i) l.points) ≡ false
  is_shut i h z = free_at_lem i h ∙ reads_blocked blockers l.points i s.blocks_are z

  -- none of a blocked point
  pub row_shut : (i j : ℕ) → i < length points → (get_or blockers i 0 ≡ 0 → ⊥) → sift K (row_from l i j) ≡ []
  unfolding is_open
  row_shut i j h z = row_none K (key_at l i) l.edges (λ q o. rw (is_shut i h z) (left_shut (free (block_of o)) (free_at (get q l.points)))) (drop j l.points)

  module _ (i j : ℕ) (hi : i < length points) (hj : j < length points) where
    pub reads_open : get_or table (64 * i + j) 0 ≡ 1 → get_or blockers i 0 ≡ 0 → get_or blockers j 0 ≡ 0 → sift K (row_from l i j) ≡ (pair_at l i j ∷ []) ++ sift K (row_from l i (j + 1))
    unfolding is_open
    reads_open e x y =
        let c = code l points table s.shown i j hi hj in
        let b = one_free (edge_of l i j) (named l points table s.shown i j hi hj) (sym c ∙ e) in
        kept_next l points table s.shown i j hi hj K (pair_at l i j ∷ [])
        (kept_one K (key_at l i) (key_at l j) (edge_of l i j) (λ z. suc-ne-zero _ (sym e ∙ c ∙ z)) (rw (b, is_free i hi x, is_free j hj y) refl))

    -- a pair that is none, or that something blocks
    pub reads_other : (get_or table (64 * i + j) 0 ≡ 1 → ⊥) → sift K (row_from l i j) ≡ sift K (row_from l i (j + 1))
    unfolding is_open
    reads_other f =
        let c = code l points table s.shown i j hi hj in
        kept_next l points table s.shown i j hi hj K [] (go (edge_of l i j) (λ z. f (c ∙ z)))
      where
        go : (o : Option (Option ℕ)) → (pair_code o ≡ 1 → ⊥) → sift K (pair_of (key_at l i) (key_at l j) o) ≡ []
        go none g = sift_nil K
        go (some none) g = absurd (g refl)
        go (some (some k)) g = kept_none K (key_at l i) (key_at l j) (some (some k)) refl

    -- the other end is blocked
    pub reads_shut : (get_or blockers j 0 ≡ 0 → ⊥) → sift K (row_from l i j) ≡ sift K (row_from l i (j + 1))
    unfolding is_open
    reads_shut z =
        kept_next l points table s.shown i j hi hj K []
        (kept_none K (key_at l i) (key_at l j) (edge_of l i j) (rw (is_shut j hj z) (right_shut (free (block_of (edge_of l i j))) (free_at (get (key_at l i) l.points)))))
