-- The pairs of a map, row by row. Assumes nothing.
use Prim.Native.Nat.{ℕ, zero, suc, ◌+◌, ◌-◌, ◌≤◌, ◌<◌}
use native.Mathlib.Omega.{arith}
use mathlib.Core.Path.{◌≡◌, refl, sym, ap, ◌∙◌}
use mathlib.Core.List.{List, [], ◌∷◌, ◌++◌}
use lib.ListN.{drop, get_or, length, take}
use Rattle.answers.specs.Asking.{Written}
use Rattle.model.specs.Answers.{all_pairs, is_open, open_pairs}
use Rattle.model.specs.Layer.{Layer, Pair, pairs}
use Rattle.model.specs.Map as model
use Rattle.held.proofs.LayerLaws.{layer_blocks, layer_keys}
use Rattle.held.proofs.NamedLaws.{blocks_named_lem, pairs_named}
use Rattle.held.specs.Holds.{Holds, Tables}
use Rattle.held.specs.declared.map.Map.{Map}
use Rattle.answers.specs.Columns.{greaters, lessers, pair_blocks}
use Rattle.answers.specs.Walks.{AllListed, OpenListed, OpenRowListed, RowListed, Shown, ShownOpen, open_of, pairs_of, row_of}
use Rattle.answers.proofs.ReadLaws.{inside, pairs_end, pairs_next, row_shut}
use Rattle.answers.proofs.RowLaws.{EndsGrowing, ends_more, ends_none, ends_pass}
use Rattle.answers.proofs.GrowLaws.{Growing, growing_done, growing_more, growing_none}
use Rattle.model.proofs.SiftLaws.{sift_append, sift_nil}

-- ---- how many pairs k points have at most
unfoldable pub tri : ℕ → ℕ
tri zero = 0
tri (suc k) = k + tri k

tri_up : (k d : ℕ) → tri k ≤ tri (k + d)
unfolding tri
tri_up k zero = let e : k + 0 ≡ k = omega arith in rw e (omega arith)
tri_up k (suc d) = let e : k + suc d ≡ suc (k + d) = omega arith in let h = tri_up k d in rw e (omega (arith, h))

tri_most : (k : ℕ) → k ≤ 64 → tri k ≤ 2016
unfolding tri
tri_most k h =
    let e : k + (64 - k) ≡ 64 = omega (arith, h) in
    rw e at (tri_up k (64 - k))

tri_next : (most i : ℕ) → i < most → tri (most - i) ≡ (most - i - 1) + tri (most - (i + 1))
unfolding tri
tri_next most i h =
    let e : most - i ≡ suc (most - (i + 1)) = omega (arith, h) in
    let f : most - i - 1 ≡ most - (i + 1) = omega (arith, h) in
    ap tri e ∙ rw f refl

-- the rows of i points are done, and there is room for what the others may have
pub record Counting (most n i : ℕ) : Type 0 where
  pub few : i ≤ most
  pub up : n + tri (most - i) ≤ 2016

counting_none : (most : ℕ) → most ≤ 64 → Counting most 0 0
counting_none most h = let e : most - 0 ≡ most = omega arith in record { few = omega arith; up = let z = tri_most most h in rw e (omega (arith, z)) }

module _ (most n i : ℕ) (more : i < most) (s : Counting most n i) where
  counting_row : (r : ℕ) → r + (i + 1) ≤ n + most → Counting most r (i + 1)
  counting_row r h = let z = tri_next most i more in record { few = omega arith; up = omega (arith, z, h, more, s.up) }

  pub counting_room : (room : ℕ) → 2016 ≤ room → n + (most - i - 1) ≤ room
  counting_room room h = let z = tri_next most i more in omega (arith, z, h, more, s.up)

-- ---- all pairs, of the rows from the i-th on
abbrev from : ℕ → Layer → List Pair
from i l = pairs (drop i l.points) l.edges

pub record AllTo (points table : List ℕ) (n i : ℕ) (a a' b b' c c' : List ℕ) : Type 0 where
  pub at : Counting (length points) n i
  pub ends : EndsGrowing (λ l. Shown l points table) pairs_of (λ l. pairs (drop i l.points) l.edges) 0 n a a' b b'
  pub blocks : Growing pair_blocks (λ l. Shown l points table) pairs_of (λ l. pairs (drop i l.points) l.edges) 0 n c c'

module _ (points table a b c : List ℕ) where
  abbrev H : Layer → Type 0
  H l = Shown l points table

  pub all_first : length points ≤ 64 → AllTo points table 0 0 a a b b c c
  all_first h = record { at = counting_none (length points) h; ends = ends_none H pairs_of 0 a b; blocks = growing_none pair_blocks H pairs_of 0 c }

  module _ (a' b' c' : List ℕ) (n i : ℕ) (s : AllTo points table n i a a' b b' c c') where
    pub all_row : i < length points → (r : ℕ) (a'' b'' c'' : List ℕ) → length a'' ≡ length a' → length b'' ≡ length b' → length c'' ≡ length c'
        → RowListed points table i n r a' a'' b' b'' c' c'' → AllTo points table r (i + 1) a a'' b b'' c c''
    all_row hi r a'' b'' c'' x y z w = record {
      at = counting_row (length points) n i hi s.at r w.0;
      ends =
          ends_more H pairs_of 0 a b (from i) (from (i + 1)) n a' b' s.ends (λ l. row_of l i) r a'' b'' (λ l h. pairs_next l i (inside l points table h i hi)) x y
          (λ l h. (w.1 l h).0) (λ l h. (w.1 l h).1);
      blocks =
          growing_more pair_blocks H pairs_of 0 c (from i) (from (i + 1)) n c' s.blocks (λ l. row_of l i) r c'' (λ l h. pairs_next l i (inside l points table h i hi)) z
          (λ l h. (w.1 l h).2);
    }

    pub all_done : length points ≤ i → AllListed points table n a a' b b' c c'
    all_done h l g =
        let z = pairs_end l i points g.keys_are h in (
          growing_done lessers H pairs_of 0 a (from i) n a' s.ends.lesser l g z [] a (refl, refl),
          growing_done greaters H pairs_of 0 b (from i) n b' s.ends.greater l g z [] b (refl, refl),
          growing_done pair_blocks H pairs_of 0 c (from i) n c' s.blocks l g z [] c (refl, refl),
        )

-- ---- the open ones
abbrev open_from : ℕ → Layer → List Pair
open_from i l = open_of l (from i l)

pub record OpenTo (points blockers table : List ℕ) (n i : ℕ) (a a' b b' : List ℕ) : Type 0 where
  pub at : Counting (length points) n i
  pub ends : EndsGrowing (λ l. ShownOpen l points blockers table) (λ l. open_of l (pairs_of l)) (λ l. open_of l (pairs (drop i l.points) l.edges)) 0 n a a' b b'

module _ (points blockers table a b : List ℕ) where
  abbrev O : Layer → Type 0
  O l = ShownOpen l points blockers table

  pub open_start : length points ≤ 64 → OpenTo points blockers table 0 0 a a b b
  open_start h = record { at = counting_none (length points) h; ends = ends_none O (open_from 0) 0 a b }

  module _ (a' b' : List ℕ) (n i : ℕ) (s : OpenTo points blockers table n i a a' b b') where
    module _ (hi : i < length points) where
      next : (l : Layer) → O l → open_from i l ≡ open_of l (row_of l i) ++ open_from (i + 1) l
      next l h = ap (open_of l) (pairs_next l i (inside l points table h.shown i hi)) ∙ sift_append (is_open l.points) (row_of l i) (from (i + 1) l)

      pub open_more : (r : ℕ) (a'' b'' : List ℕ) → length a'' ≡ length a' → length b'' ≡ length b' → OpenRowListed points blockers table i n r a' a'' b' b'' → OpenTo points blockers table r (i + 1) a a'' b b''
      open_more r a'' b'' x y w = record {
        at = counting_row (length points) n i hi s.at r w.0;
        ends =
            ends_more O (open_from 0) 0 a b (open_from i) (open_from (i + 1)) n a' b' s.ends (λ l. open_of l (row_of l i)) r a'' b'' next x y
            (λ l h. (w.1 l h).0) (λ l h. (w.1 l h).1);
      }

      -- the i-th point is blocked
      pub open_skip : (get_or blockers i 0 ≡ 0 → ⊥) → OpenTo points blockers table n (i + 1) a a' b b'
      open_skip f = record {
        at = counting_row (length points) n i hi s.at n (omega arith);
        ends =
            ends_pass O (open_from 0) 0 a b (open_from i) (open_from (i + 1)) n a' b' s.ends
            (λ l h. next l h ∙ ap (λ (u : List Pair). u ++ open_from (i + 1) l) (row_shut l points blockers table h i (i + 1) hi f));
      }

    pub open_end : length points ≤ i → OpenListed points blockers table n a a' b b'
    open_end h l g =
        let z = ap (open_of l) (pairs_end l i points g.shown.keys_are h) ∙ sift_nil (is_open l.points) in (
          growing_done lessers O (open_from 0) 0 a (open_from i) n a' s.ends.lesser l g z [] a (refl, refl),
          growing_done greaters O (open_from 0) 0 b (open_from i) n b' s.ends.greater l g z [] b (refl, refl),
        )

-- ---- of a map that is held
module _ (m : Map) (t : Tables) (M : model.Map) (h : Holds m t M) (points table : List ℕ) (p : t.points ≡ points) (q : t.pairs ≡ table) where
  shown : Shown M.layer (take m.points points) table
  shown = record {
    room = h.layer.room;
    keys_are = ap (take m.points) (sym p) ∙ layer_keys h.layer;
    pairs_are = rw q at h.layer.pairs_are;
    named = pairs_named h.good;
  }

  pub pairs_written : (a a' b b' c c' : List ℕ) (r : ℕ) → AllListed (take m.points points) table r a a' b b' c c'
      → Written M r
      (record { was = a; is = a'; wanted = λ M. lessers (all_pairs M) } ∷ record { was = b; is = b'; wanted = λ M. greaters (all_pairs M) }
      ∷ record { was = c; is = c'; wanted = λ M. pair_blocks (all_pairs M) } ∷ [])
  unfolding all_pairs
  pairs_written a a' b b' c c' r f =
      let w = f M.layer shown in
      (w.0.0, w.0.1, (w.1.0, w.1.1, (w.2.0, w.2.1, tt)))

  module _ (blockers : List ℕ) (e : t.blockers ≡ blockers) where
    shown_open : ShownOpen M.layer (take m.points points) (take m.points blockers) table
    shown_open = record { shown = shown; order = h.good.point_order; blocks_are = ap (take m.points) (sym e) ∙ layer_blocks h.layer; all_named = blocks_named_lem h.good }

    pub open_written : (a a' b b' : List ℕ) (r : ℕ) → OpenListed (take m.points points) (take m.points blockers) table r a a' b b'
        → Written M r (record { was = a; is = a'; wanted = λ M. lessers (open_pairs M) } ∷ record { was = b; is = b'; wanted = λ M. greaters (open_pairs M) } ∷ [])
    unfolding open_pairs all_pairs
    open_written a a' b b' r f =
        let w = f M.layer shown_open in
        (w.0.0, w.0.1, (w.1.0, w.1.1, tt))
