-- A row of pairs, one after another, with the ends of the pairs in two columns and their blockers in a third. Assumes nothing.
use Prim.Native.Nat.{ℕ, ◌+◌, ◌-◌, ◌*◌, ◌≤◌, ◌<◌}
use native.Mathlib.Omega.{arith}
use mathlib.Core.Path.{◌≡◌, refl, ap, ◌∙◌}
use mathlib.Core.List.{List, [], ◌∷◌, ◌++◌}
use lib.ListN.{get_or, length, set}
use Rattle.model.specs.Answers.{is_open}
use Rattle.model.specs.Layer.{Layer, Pair}
use Rattle.held.specs.Codes.{block_code}
use Rattle.answers.specs.Columns.{greaters, lessers, pair_blocks}
use Rattle.answers.specs.Walks.{Grows, OpenRowListed, RowFits, RowListed, Shown, ShownOpen, open_of, row_from, row_of}
use Rattle.answers.proofs.ReadLaws.{pair_at, reads_blocker, reads_clear, reads_key, reads_none, reads_open, reads_other, reads_shut, reads_some, row_end}
use Rattle.answers.proofs.GrowLaws.{Growing, growing_done, growing_more, growing_none, growing_pass, growing_put}
use Rattle.model.proofs.SiftLaws.{sift_nil}

-- ---- the columns, one pair longer
lessers_snoc : (v : List Pair) (p : Pair) → lessers (v ++ (p ∷ [])) ≡ lessers v ++ (p.lesser ∷ [])
lessers_snoc [] p = refl
lessers_snoc (q ∷ v) p = ap (λ (r : List ℕ). q.lesser ∷ r) (lessers_snoc v p)

greaters_snoc : (v : List Pair) (p : Pair) → greaters (v ++ (p ∷ [])) ≡ greaters v ++ (p.greater ∷ [])
greaters_snoc [] p = refl
greaters_snoc (q ∷ v) p = ap (λ (r : List ℕ). q.greater ∷ r) (greaters_snoc v p)

blocks_snoc : (v : List Pair) (p : Pair) → pair_blocks (v ++ (p ∷ [])) ≡ pair_blocks v ++ (block_code p.block ∷ [])
blocks_snoc [] p = refl
blocks_snoc (q ∷ v) p = ap (λ (r : List ℕ). block_code q.block ∷ r) (blocks_snoc v p)

-- ---- both ends at once
pub record EndsGrowing (H : Layer → Type 0) (whole rest : Layer → List Pair) (n₀ n : ℕ) (a a' b b' : List ℕ) : Type 0 where
  pub lesser : Growing lessers H whole rest n₀ n a a'
  pub greater : Growing greaters H whole rest n₀ n b b'

module _ (H : Layer → Type 0) (whole : Layer → List Pair) (n₀ : ℕ) (a b : List ℕ) where
  pub ends_none : EndsGrowing H whole whole n₀ n₀ a a b b
  ends_none = record { lesser = growing_none lessers H whole n₀ a; greater = growing_none greaters H whole n₀ b }

  module _ (rest rest' : Layer → List Pair) (n : ℕ) (a' b' : List ℕ) (g : EndsGrowing H whole rest n₀ n a a' b b') where
    pub ends_pass : ((l : Layer) → H l → rest l ≡ rest' l) → EndsGrowing H whole rest' n₀ n a a' b b'
    ends_pass e = record { lesser = growing_pass lessers H whole n₀ a rest rest' n a' g.lesser e; greater = growing_pass greaters H whole n₀ b rest rest' n b' g.greater e }

    ends_put : (p : Layer → Pair) (x y : ℕ) → ((l : Layer) → H l → rest l ≡ (p l ∷ []) ++ rest' l) → ((l : Layer) → H l → x ≡ (p l).lesser) → ((l : Layer) → H l → y ≡ (p l).greater)
        → n < length a' → n < length b' → EndsGrowing H whole rest' n₀ (n + 1) a (set a' n x) b (set b' n y)
    ends_put p x y e f h i j = record {
      lesser = growing_put lessers H whole n₀ a rest rest' n a' g.lesser (λ q. q.lesser) lessers_snoc p x e f i;
      greater = growing_put greaters H whole n₀ b rest rest' n b' g.greater (λ q. q.greater) greaters_snoc p y e h j;
    }

    pub ends_more : (u : Layer → List Pair) (m : ℕ) (a'' b'' : List ℕ) → ((l : Layer) → H l → rest l ≡ u l ++ rest' l) → length a'' ≡ length a' → length b'' ≡ length b'
        → ((l : Layer) → H l → Grows lessers (u l) n m a' a'') → ((l : Layer) → H l → Grows greaters (u l) n m b' b'') → EndsGrowing H whole rest' n₀ m a a'' b b''
    ends_more u m a'' b'' e x y f h = record {
      lesser = growing_more lessers H whole n₀ a rest rest' n a' g.lesser u m a'' e x f;
      greater = growing_more greaters H whole n₀ b rest rest' n b' g.greater u m b'' e y h;
    }

-- ---- how far a row is: its j-th point is next; and how many pairs there may be then
pub record Passing (most i count n j : ℕ) : Type 0 where
  pub few : j ≤ most
  pub past : i < j
  pub up : n + (i + 1) ≤ count + j

module _ (most i count n j : ℕ) (more : j < most) (s : Passing most i count n j) where
  passing_put : Passing most i count (n + 1) (j + 1)
  passing_put = record { few = omega arith; past = omega (arith, s.past); up = omega (arith, s.up) }

  passing_on : Passing most i count n (j + 1)
  passing_on = record { few = omega arith; past = omega (arith, s.past); up = omega (arith, s.up) }

  pub passing_room : (room : ℕ) → count + (most - i - 1) ≤ room → n < room
  passing_room room h = omega (arith, s.past, s.up, h, more)

-- ---- a row of all pairs
pub record RowTo (points table : List ℕ) (i count n j : ℕ) (a a' b b' c c' : List ℕ) : Type 0 where
  pub at : Passing (length points) i count n j
  pub ends : EndsGrowing (λ l. Shown l points table) (λ l. row_of l i) (λ l. row_from l i j) count n a a' b b'
  pub blocks : Growing pair_blocks (λ l. Shown l points table) (λ l. row_of l i) (λ l. row_from l i j) count n c c'

module _ (points table : List ℕ) (i count : ℕ) (hi : i < length points) (a b c : List ℕ) where
  abbrev H : Layer → Type 0
  H l = Shown l points table

  abbrev whole : Layer → List Pair
  whole l = row_of l i

  module _ (a' b' c' : List ℕ) (n j : ℕ) (s : RowTo points table i count n j a a' b b' c c') where
    module _ (hj : j < length points) where
      pub row_pass : get_or table (64 * i + j) 0 ≡ 0 → RowTo points table i count n (j + 1) a a' b b' c c'
      row_pass e = record {
        at = passing_on (length points) i count n j hj s.at;
        ends = ends_pass H whole count a b (λ l. row_from l i j) (λ l. row_from l i (j + 1)) n a' b' s.ends (λ l h. reads_none l points table h i j hi hj e);
        blocks = growing_pass pair_blocks H whole count c (λ l. row_from l i j) (λ l. row_from l i (j + 1)) n c' s.blocks (λ l h. reads_none l points table h i j hi hj e);
      }

      module _ (f : get_or table (64 * i + j) 0 ≡ 0 → ⊥) (ra : RowFits points i count a) (rb : RowFits points i count b) (rc : RowFits points i count c) where
        row_put : (x : ℕ) → ((l : Layer) → H l → x ≡ block_code (pair_at l i j).block)
            → RowTo points table i count (n + 1) (j + 1) a (set a' n (get_or points i 0)) b (set b' n (get_or points j 0)) c (set c' n x)
        row_put x k =
            let room = passing_room (length points) i count n j hj s.at in
            let ga : n < length a' = rw s.ends.lesser.same (room (length a) ra) in
            let gb : n < length b' = rw s.ends.greater.same (room (length b) rb) in
            let gc : n < length c' = rw s.blocks.same (room (length c) rc) in
            record {
              at = passing_put (length points) i count n j hj s.at;
              ends =
                  ends_put H whole count a b (λ l. row_from l i j) (λ l. row_from l i (j + 1)) n a' b' s.ends (λ l. pair_at l i j) (get_or points i 0) (get_or points j 0)
                  (λ l h. reads_some l points table h i j hi hj f) (λ l h. reads_key l points table h i) (λ l h. reads_key l points table h j) ga gb;
              blocks =
                  growing_put pair_blocks H whole count c (λ l. row_from l i j) (λ l. row_from l i (j + 1)) n c' s.blocks (λ p. block_code p.block) blocks_snoc (λ l. pair_at l i j) x
                  (λ l h. reads_some l points table h i j hi hj f) k gc;
            }

        pub row_clear : get_or table (64 * i + j) 0 ≡ 1 → RowTo points table i count (n + 1) (j + 1) a (set a' n (get_or points i 0)) b (set b' n (get_or points j 0)) c (set c' n 0)
        row_clear e = row_put 0 (λ l h. reads_clear l points table h i j hi hj e)

        pub row_blocked : (get_or table (64 * i + j) 0 ≡ 1 → ⊥)
            → RowTo points table i count (n + 1) (j + 1) a (set a' n (get_or points i 0)) b (set b' n (get_or points j 0)) c (set c' n (get_or table (64 * i + j) 0))
        row_blocked g = row_put (get_or table (64 * i + j) 0) (λ l h. reads_blocker l points table h i j hi hj f g)

    pub row_done : length points ≤ j → RowListed points table i count n a a' b b' c c'
    row_done h = (
      omega (arith, s.at.few, s.at.up, h),
      λ l g.
          let z = row_end l i j points g.keys_are h in (
            growing_done lessers H whole count a (λ l. row_from l i j) n a' s.ends.lesser l g z,
            growing_done greaters H whole count b (λ l. row_from l i j) n b' s.ends.greater l g z,
            growing_done pair_blocks H whole count c (λ l. row_from l i j) n c' s.blocks l g z,
          ),
    )

-- ---- a row of the open ones
pub record OpenRowTo (points blockers table : List ℕ) (i count n j : ℕ) (a a' b b' : List ℕ) : Type 0 where
  pub at : Passing (length points) i count n j
  pub ends : EndsGrowing (λ l. ShownOpen l points blockers table) (λ l. open_of l (row_of l i)) (λ l. open_of l (row_from l i j)) count n a a' b b'

module _ (points blockers table : List ℕ) (i count : ℕ) (hi : i < length points) (z : get_or blockers i 0 ≡ 0) (a b : List ℕ) where
  abbrev O : Layer → Type 0
  O l = ShownOpen l points blockers table

  abbrev opens : ℕ → Layer → List Pair
  opens j l = open_of l (row_from l i j)

  module _ (a' b' : List ℕ) (n j : ℕ) (s : OpenRowTo points blockers table i count n j a a' b b') where
    module _ (hj : j < length points) where
      open_on : ((l : Layer) → O l → opens j l ≡ opens (j + 1) l) → OpenRowTo points blockers table i count n (j + 1) a a' b b'
      open_on e = record { at = passing_on (length points) i count n j hj s.at; ends = ends_pass O (opens (i + 1)) count a b (opens j) (opens (j + 1)) n a' b' s.ends e }

      pub open_other : (get_or table (64 * i + j) 0 ≡ 1 → ⊥) → OpenRowTo points blockers table i count n (j + 1) a a' b b'
      open_other f = open_on (λ l h. reads_other l points blockers table h i j hi hj f)

      pub open_shut : (get_or blockers j 0 ≡ 0 → ⊥) → OpenRowTo points blockers table i count n (j + 1) a a' b b'
      open_shut f = open_on (λ l h. reads_shut l points blockers table h i j hi hj f)

      pub open_put : RowFits points i count a → RowFits points i count b → get_or table (64 * i + j) 0 ≡ 1 → get_or blockers j 0 ≡ 0
          → OpenRowTo points blockers table i count (n + 1) (j + 1) a (set a' n (get_or points i 0)) b (set b' n (get_or points j 0))
      open_put ra rb e y =
          let room = passing_room (length points) i count n j hj s.at in
          let ga : n < length a' = rw s.ends.lesser.same (room (length a) ra) in
          let gb : n < length b' = rw s.ends.greater.same (room (length b) rb) in
          record {
            at = passing_put (length points) i count n j hj s.at;
            ends =
                ends_put O (opens (i + 1)) count a b (opens j) (opens (j + 1)) n a' b' s.ends (λ l. pair_at l i j) (get_or points i 0) (get_or points j 0)
                (λ l h. reads_open l points blockers table h i j hi hj e z y) (λ l h. reads_key l points table h.shown i) (λ l h. reads_key l points table h.shown j) ga gb;
          }

    pub open_done : length points ≤ j → OpenRowListed points blockers table i count n a a' b b'
    open_done h = (
      omega (arith, s.at.few, s.at.up, h),
      λ l g.
          let e = ap (open_of l) (row_end l i j points g.shown.keys_are h) ∙ sift_nil (is_open l.points) in (
            growing_done lessers O (opens (i + 1)) count a (opens j) n a' s.ends.lesser l g e,
            growing_done greaters O (opens (i + 1)) count b (opens j) n b' s.ends.greater l g e,
          ),
    )
