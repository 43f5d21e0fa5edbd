-- A walk over an ascending table column by column, and over a column row by row, finds the first cell that is taken. Assumes nothing.
use Prim.Native.Nat.{ℕ, suc, ◌+◌, ◌-◌, ◌*◌, ◌^◌, ◌≤◌, ◌<◌}
use native.Mathlib.Nat.{le_refl}
use native.Mathlib.Numerals.{add-one}
use native.Mathlib.Omega.{arith}
use mathlib.Core.Path.{◌≡◌, refl, sym, ap, ◌∙◌, subst}
use mathlib.Core.Bool.{Bool, true, false, cond, ◌&&◌, and_assoc, and-false, true≢false, false≢true}
use mathlib.Core.List.{List, [], ◌∷◌, ◌++◌}
use mathlib.Core.Logic.{⊎_elim}
use mathlib.Core.Option.{Option, none, some}
use lib.Dec.{eqb, leb, ltb}
use lib.ListN.{length, take, drop, get_or, take-append-drop, drop_of_length-le}
use lib.Seq.{drop-cons, drop-drop, length-take-le}
use borrow.Author.Tests.{lt-ltb, le-ltb, lt-leb, le-leb, eq-eqb, ne_eqb}
use Rattle.ieee.proofs.Tools.{lt_or_ge}
use Rattle.table.proofs.Parts.{tail_is}
use Rattle.model.specs.Cell.{W, col, row}
use Rattle.model.specs.Maps.{AscL, find, sift}
use Rattle.shape.specs.Bounds.{in_bounds}
use Rattle.shape.specs.declared.bounds.Bounds.{Bounds}
use Rattle.table.specs.Columns.{InColumn, column_of, rows_from}
use Rattle.table.specs.Tables.{All, rank}
use Rattle.table.proofs.AllLaws.{all_at, all_from, all_map, asc_l_all, asc_l_drop}
use Rattle.table.proofs.ColumnLaws.{column_ascends, column_one, rows_ascend}
use Rattle.table.proofs.RankLaws.{rank_le, rank_splits}
use Rattle.table.proofs.SiftLaws.{sift_below, sift_same}
use Rattle.question.specs.Walk.{First, FirstIn, Left, Shape, below, column_taken, flat, keyed, passes, row_taken, rows_at, taken}
use Rattle.question.specs.declared.search.Found.{Found}
use Rattle.question.proofs.FindLaws.{all_kept, all_rest, find_agree, find_back, find_front, find_here, find_later, find_nowhere, find_sift}

-- ---- an answer read back
keyed_some : (o : Option ℕ) → (keyed o).some ≡ true → (k : ℕ) × (o ≡ some k)
keyed_some none e = absurd (false≢true e)
keyed_some (some k) e = (k, refl)

keyed_none : (o : Option ℕ) → (keyed o).some ≡ false → o ≡ none
keyed_none none e = refl
keyed_none (some k) e = absurd (true≢false e)

-- from place i on an ascending list, no entry is below the one at i
from_here : (l : List ℕ) (i : ℕ) → i < length l → AscL 0 l → All (λ k. get_or l i 0 ≤ k) (drop i l)
from_here l i h a = subst (All (λ k. get_or l i 0 ≤ k)) (sym e) (omega arith, all_map (drop (suc i) l) (λ k b. omega arith) (asc_l_all (suc (get_or l i 0)) (drop (suc i) l) b.1))
  where
    e : drop i l ≡ get_or l i 0 ∷ drop (suc i) l
    e = drop-cons l i 0 h

    b : AscL 0 (get_or l i 0 ∷ drop (suc i) l)
    b = subst (AscL 0) e (asc_l_drop 0 i l a)

-- ---- along a column, from place i on
module _ (high : ℕ) (s : Shape) (l : List ℕ) (i : ℕ) (h : i < length l) where
  abbrev wanted : ℕ → Bool
  wanted = row_taken high s

  step : find wanted (drop i l) ≡ find wanted (get_or l i 0 ∷ drop (i + 1) l)
  step = rw (add-one i) (ap (find wanted) (drop-cons l i 0 h))

  -- nothing behind a row that is too high has a lower row
  pub row_past : (x : ℕ) → AscL 0 l → InColumn x l → high ≤ row (get_or l i 0) → find wanted l ≡ find wanted (drop i l) → none ≡ find wanted l
  row_past x a o b e = sym (e ∙ find_nowhere wanted (drop i l) (both (drop i l) (from_here l i h a) (all_rest (λ k. col k ≡ x) i l o)))
    where
      first : col (get_or l i 0) ≡ x
      first = all_at (λ k. col k ≡ x) l i o h

      both : (m : List ℕ) → All (λ k. get_or l i 0 ≤ k) m → InColumn x m → All (λ k. wanted k ≡ false) m
      both [] u v = tt
      both (k ∷ m) u v =
          let y = get_or l i 0 in
          let f : col y ≡ x = first in
          let z : high ≤ row k = omega (arith, u.0, v.0) in
          (rw (le-ltb (row k) high z) refl, both m u.1 v.1)

  pub row_passes : row (get_or l i 0) < high → passes s (get_or l i 0) ≡ true → find wanted l ≡ find wanted (drop i l) → some (get_or l i 0) ≡ find wanted l
  row_passes b p e = sym (e ∙ step ∙ find_here wanted (get_or l i 0) (drop (i + 1) l) (rw (lt-ltb (row (get_or l i 0)) high b) p))

  pub row_fails : passes s (get_or l i 0) ≡ false → find wanted l ≡ find wanted (drop i l) → find wanted l ≡ find wanted (drop (i + 1) l)
  row_fails p e = e ∙ step ∙ find_later wanted (get_or l i 0) (drop (i + 1) l) (rw p (and-false (ltb (row (get_or l i 0)) high)))

-- where every cell passes, the first tells
pub row_first : (high : ℕ) (b : Bounds) (l : List ℕ) → 0 < length l → (x : ℕ) → AscL 0 l → InColumn x l → cond (ltb (row (get_or l 0 0)) high) (some (get_or l 0 0)) none ≡ find (row_taken high (flat b)) l
row_first high b l h x a o =
    let k = get_or l 0 0 in
    ⊎_elim
    (λ t. rw (lt-ltb (row k) high t) (row_passes high (flat b) l 0 h t refl refl))
    (λ t. rw (le-ltb (row k) high t) (row_past high (flat b) l 0 h x a o t refl))
    (lt_or_ge (row k) high)

-- at the end
pub find_past : (p : ℕ → Bool) (l : List ℕ) (i : ℕ) → length l ≤ i → find p (drop i l) ≡ none
unfolding find
find_past p l i h = ap (find p) (drop_of_length-le l h)

-- the rows that are asked for
rows_found : (s : Shape) (x : ℕ) (l : List ℕ) → find (row_taken (rows_at s x).high s) (rows_from (rows_at s x).low l) ≡ find (λ k. column_taken s x k) l
rows_found s x l =
    let b : Bounds = rows_at s x in
    find_sift (λ k. leb b.low (row k)) (row_taken b.high s) l
    ∙ find_agree (λ k. leb b.low (row k) && row_taken b.high s k) (λ k. column_taken s x k) l
    (all_from (λ k. (leb b.low (row k) && row_taken b.high s k) ≡ column_taken s x k) l (λ i. let k = get_or l i 0 in sym (and_assoc (leb b.low (row k)) (ltb (row k) b.high) (passes s k))))

pub rows_answered : (s : Shape) (x : ℕ) (l m : List ℕ) (b : Bounds) (r : Found) → b ≡ rows_at s x → AscL 0 l → InColumn x l → m ≡ rows_from b.low l
    → ((z : ℕ) → AscL 0 m → InColumn z m → r ≡ keyed (find (row_taken b.high s) m)) → r ≡ keyed (find (λ k. column_taken s x k) l)
rows_answered s x l m b r q a o e f =
    let same : find (row_taken b.high s) m ≡ find (λ k. column_taken s x k) l = rw (e, q) (rows_found s x l) in
    f x (subst (AscL 0) (sym e) (rows_ascend b.low 0 l a)) (subst (InColumn x) (sym e) (all_kept (λ k. col k ≡ x) (λ k. leb b.low (row k)) l o))
    ∙ ap keyed same

-- ---- along a table: where the walk begins. No cell is taken below the row `low`
module _ (columns : Bounds) (s : Shape) (l : List ℕ) (low : ℕ) (rows : (x : ℕ) → low ≤ (rows_at s x).low) where
  -- nothing is taken at all
  left_none : ((i : ℕ) → taken columns s (get_or l i 0) ≡ false) → Left columns s l (length l)
  left_none f = λ a.
      find_nowhere (taken columns s) l (all_from (λ k. taken columns s k ≡ false) l f)
      ∙ sym (find_past (below columns.high s) l (length l) (le_refl (length l)))

  -- no cell has so high a column, or so high a row
  pub column_beyond_lem : W ≤ columns.low → ((i : ℕ) → get_or l i 0 < 2 ^ 64) → Left columns s l (length l)
  column_beyond_lem h f = left_none (λ i. let b = f i in rw (lt-leb columns.low (col (get_or l i 0)) (omega arith)) refl)

  low_row : (k : ℕ) → row k < low → taken columns s k ≡ false
  low_row k b =
      let n : low ≤ (rows_at s (col k)).low = rows (col k) in
      let m : row k < (rows_at s (col k)).low = omega arith in
      rw (lt-leb (rows_at s (col k)).low (row k) m) (and-false (in_bounds columns (col k)))

  pub row_beyond : W ≤ low → Left columns s l (length l)
  row_beyond h = left_none (λ i. let k = get_or l i 0 in low_row k (omega arith))

  -- the cells before the row `low` of the first column do not count
  pub left_begins : (i : ℕ) → low < W → (AscL 0 l → i ≡ rank (columns.low * W + low) l) → Left columns s l i
  left_begins i w e = λ a.
      let p = columns.low * W + low in
      let n = rank p l in
      let q = rank_splits 0 p l a in
      rw (e a)
      (ap (find (taken columns s)) (sym (take-append-drop n l))
      ∙ find_back (taken columns s) (take n l) (drop n l) (find_nowhere (taken columns s) (take n l) (all_map (take n l) before q.0))
      ∙ find_agree (taken columns s) (below columns.high s) (drop n l) (all_map (drop n l) (λ k b. rw (le-leb columns.low (col k) (omega arith)) refl) q.1))
    where
      before : (k : ℕ) → k < columns.low * W + low → taken columns s k ≡ false
      before k b = ⊎_elim (λ c. rw (lt-leb columns.low (col k) c) refl) (λ c. low_row k (omega arith)) (lt_or_ge (col k) columns.low)

-- column x is the front stretch of an ascending list that begins in it
front_test : (x k : ℕ) → x * W ≤ k → eqb (col k) x ≡ ltb k ((x + 1) * W)
front_test x k h =
    ⊎_elim
    (λ b. rw (lt-ltb k ((x + 1) * W) b) (eq-eqb (col k) x (omega arith)))
    (λ b. rw (le-ltb k ((x + 1) * W) b) (ne_eqb (col k) x (λ e. omega arith)))
    (lt_or_ge k ((x + 1) * W))

front_is : (x : ℕ) (l : List ℕ) → AscL 0 l → All (λ k. x * W ≤ k) l → column_of x l ≡ take (rank ((x + 1) * W) l) l
front_is x l a b =
    sift_same (λ k. eqb (col k) x) (λ k. ltb k ((x + 1) * W)) l (all_map l (front_test x) b) ∙ sift_below ((x + 1) * W) 0 l a

front_splits : (x : ℕ) (l : List ℕ) → AscL 0 l → All (λ k. x * W ≤ k) l → l ≡ column_of x l ++ drop (length (column_of x l)) l
front_splits x l a b =
    let r = rank ((x + 1) * W) l in
    rw (front_is x l a b, length-take-le r l (rank_le ((x + 1) * W) l)) (sym (take-append-drop r l))

begins_some : (y : ℕ) (l : List ℕ) → length (column_of (col y) (y ∷ l)) ≡ 0 → ⊥
unfolding sift
begins_some y l e = let f = rw (eq-eqb (col y) (col y) refl) at e in omega arith

-- from place i on, where cell y stands
module _ (high : ℕ) (s : Shape) (l : List ℕ) (i : ℕ) (h : i < length l) (a : AscL 0 l) where
  abbrev y : ℕ
  y = get_or l i 0

  column_past : high ≤ col y → find (below high s) (drop i l) ≡ none
  column_past b = find_nowhere (below high s) (drop i l) (all_map (drop i l) (λ k c. rw (le-ltb (col k) high (omega arith)) refl) (from_here l i h a))

  -- y itself
  cell_here : col y < high → column_taken s (col y) y ≡ true → find (below high s) (drop i l) ≡ some y
  cell_here b t = ap (find (below high s)) (drop-cons l i 0 h) ∙ find_here (below high s) y (drop (suc i) l) (rw (lt-ltb (col y) high b) t)

  -- m is the column as it was cut out of the rest of the table, r what was found in it
  module _ (m : List ℕ) (e : AscL 0 (take (length l - i) (drop i l)) → m ≡ column_of (col y) (take (length l - i) (drop i l))) where
    cut : m ≡ column_of (col y) (drop i l)
    cut = rw (tail_is i l) at (e (rw (tail_is i l) (asc_l_drop 0 i l a)))

    splits : drop i l ≡ m ++ drop (i + length m) l
    splits =
        rw (cut, ← drop-drop (length (column_of (col y) (drop i l))) i l)
        (front_splits (col y) (drop i l) (asc_l_drop 0 i l a) (all_map (drop i l) (λ k c. omega arith) (from_here l i h a)))

    one : InColumn (col y) m
    one = subst (InColumn (col y)) (sym cut) (column_one (col y) (drop i l))

    column_some : length m ≡ 0 → ⊥
    column_some z = begins_some y (drop (suc i) l) (rw (cut, drop-cons l i 0 h) at z)

    module _ (b : col y < high) (r : Found) (f : AscL 0 m → InColumn (col y) m → r ≡ keyed (find (λ k. column_taken s (col y) k) m)) where
      told : r ≡ keyed (find (below high s) m)
      told =
          f (subst (AscL 0) (sym cut) (column_ascends (col y) 0 (drop i l) (asc_l_drop 0 i l a))) one
          ∙ ap keyed (find_agree (λ k. column_taken s (col y) k) (below high s) m (all_map m inside one))
        where
          inside : (k : ℕ) → col k ≡ col y → column_taken s (col y) k ≡ below high s k
          inside k c = subst (λ (x : ℕ). column_taken s (col y) k ≡ (ltb x high && column_taken s x k)) (sym c) (rw (lt-ltb (col y) high b) refl)

      some_told : (keyed (find (below high s) m)).some ≡ r.some
      some_told = sym (ap (λ (v : Found). v.some) told)

      column_here : r.some ≡ true → r ≡ keyed (find (below high s) (drop i l))
      column_here t =
          let w = keyed_some (find (below high s) m) (some_told ∙ t) in
          told ∙ ap keyed (w.1 ∙ sym (ap (find (below high s)) splits ∙ find_front (below high s) m (drop (i + length m) l) w.0 w.1))

      column_next : r.some ≡ false → find (below high s) (drop i l) ≡ find (below high s) (drop (i + length m) l)
      column_next t =
          ap (find (below high s)) splits ∙ find_back (below high s) m (drop (i + length m) l) (keyed_none (find (below high s) m) (some_told ∙ t))

-- ---- the walk's steps, at place i, where cell y is; r is what is answered
-- m is the column as it was cut out of the rest of the table, r what was found in it: that is the answer, or the walk goes on past the column
pub record Stepped (columns : Bounds) (s : Shape) (l m : List ℕ) (i : ℕ) (r : Found) : Type 0 where
  pub here : r.some ≡ true → First (taken columns s) l r
  pub next : r.some ≡ false → (j : ℕ) → (0 < length m → j ≡ i + length m) → Left columns s l j

module _ (columns : Bounds) (s : Shape) (l : List ℕ) (i : ℕ) (v : Left columns s l i) where
  abbrev y' : ℕ
  y' = get_or l i 0

  pub left_past : (r : Found) → r ≡ keyed none → i < length l → columns.high ≤ col y' → First (taken columns s) l r
  left_past r e h b = λ a. e ∙ ap keyed (sym (v a ∙ column_past columns.high s l i h a b))

  pub left_end : (r : Found) → r ≡ keyed none → length l ≤ i → First (taken columns s) l r
  left_end r e h = λ a. e ∙ ap keyed (sym (v a ∙ find_past (below columns.high s) l i h))

  module _ (h : i < length l) (b : col y' < columns.high) where
    pub left_cell : column_taken s (col y') y' ≡ true → First (taken columns s) l (keyed (some y'))
    left_cell t = λ a. ap keyed (sym (v a ∙ cell_here columns.high s l i h a b t))

    pub left_step : (m : List ℕ) → (AscL 0 (take (length l - i) (drop i l)) → m ≡ column_of (col y') (take (length l - i) (drop i l))) → (r : Found)
        → FirstIn (col y') (λ k. column_taken s (col y') k) m r → Stepped columns s l m i r
    left_step m e r f = record {
      here = λ t a. column_here columns.high s l i h a m e b r f t ∙ ap keyed (sym (v a));
      next = λ t j n a.
          let some : 0 < length m = ⊎_elim (λ p. p) (λ p. absurd (column_some columns.high s l i h a m e (omega arith))) (lt_or_ge 0 (length m)) in
          rw (n some) (v a ∙ column_next columns.high s l i h a m e b r f t);
    }
