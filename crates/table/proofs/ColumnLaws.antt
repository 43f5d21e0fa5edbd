-- A column of an ascending table and its rows: where they stand, their order, their members. Assumes nothing.
use Prim.Native.Nat.{ℕ, ◌+◌, ◌*◌, ◌^◌, ◌≤◌, ◌<◌}
use native.Mathlib.Omega.{arith}
use mathlib.Core.Path.{◌≡◌, refl, sym, ap, ◌∙◌}
use mathlib.Core.Logic.{⊎_elim}
use mathlib.Core.Bool.{Bool, false, ◌&&◌}
use mathlib.Core.List.{List, [], ◌∷◌}
use lib.Dec.{eqb, leb, ltb}
use lib.ListN.{length, take, drop, get_or}
use borrow.Author.Tests.{lt-ltb, le-ltb, lt-leb, le-leb, eq-eqb, ne_eqb, eqb-true}
use Rattle.ieee.proofs.Tools.{lt_or_ge}
use Rattle.model.specs.Cell.{W, col, row}
use Rattle.model.specs.Maps.{AscL, has, sift}
use Rattle.model.proofs.SiftLaws.{sift_twice}
use Rattle.table.specs.Columns.{InColumn, column_of, rows_from}
use Rattle.table.specs.Tables.{rank}
use Rattle.table.proofs.AllLaws.{all_from, all_map, asc_l_drop}
use Rattle.table.proofs.SiftLaws.{all_sift, asc_l_sift, has_sift, sift_below, sift_from, sift_none, sift_same}

-- ---- order and members
pub column_ascends : (x lo : ℕ) (l : List ℕ) → AscL lo l → AscL lo (column_of x l)
column_ascends x lo l a = asc_l_sift (λ k. eqb (col k) x) lo l a

pub column_has : (x k : ℕ) (l : List ℕ) → has k (column_of x l) ≡ has k l && eqb (col k) x
column_has x k l = has_sift (λ j. eqb (col j) x) k l

pub column_one : (x : ℕ) (l : List ℕ) → InColumn x (column_of x l)
column_one x l = all_map (column_of x l) (λ k e. eqb-true (col k) x e) (all_sift (λ k. eqb (col k) x) l)

pub rows_ascend : (y lo : ℕ) (l : List ℕ) → AscL lo l → AscL lo (rows_from y l)
rows_ascend y lo l a = asc_l_sift (λ k. leb y (row k)) lo l a

pub rows_has : (y k : ℕ) (l : List ℕ) → has k (rows_from y l) ≡ has k l && leb y (row k)
rows_has y k l = has_sift (λ j. leb y (row j)) k l

-- ---- where column x stands
column_test : (x k : ℕ) → leb (x * W) k && ltb k ((x + 1) * W) ≡ eqb (col k) x
column_test x k =
    ⊎_elim
    (λ h. rw (lt-leb (x * W) k h, ne_eqb (col k) x (λ e. omega arith)))
    (λ h.
    ⊎_elim
    (λ b. rw (le-leb (x * W) k h, lt-ltb k ((x + 1) * W) b, eq-eqb (col k) x (omega arith)))
    (λ b. rw (le-leb (x * W) k h, le-ltb k ((x + 1) * W) b, ne_eqb (col k) x (λ e. omega arith)))
    (lt_or_ge k ((x + 1) * W)))
    (lt_or_ge k (x * W))

pub column_is : (x a b : ℕ) (l : List ℕ) → AscL 0 l → a ≡ rank (x * W) l → b ≡ rank ((x + 1) * W) (drop a l) → take b (drop a l) ≡ column_of x l
column_is x a b l asc ea eb =
    let p : ℕ = x * W in
    let q : ℕ = (x + 1) * W in
    let below : ℕ → Bool = λ k. ltb k q in
    ap (λ (n : ℕ). take n (drop a l)) eb
    ∙ sym (sift_below q 0 (drop a l) (asc_l_drop 0 a l asc))
    ∙ ap (λ (n : ℕ). sift below (drop n l)) ea
    ∙ ap (sift below) (sym (sift_from p 0 l asc))
    ∙ sift_twice (leb p) below l
    ∙ sift_same (λ k. leb p k && ltb k q) (λ k. eqb (col k) x) l (all_from (λ k. leb p k && ltb k q ≡ eqb (col k) x) l (λ i. column_test x (get_or l i 0)))

-- no u64 is in such a column
pub column_none : (x : ℕ) (l : List ℕ) → W ≤ x → ((i : ℕ) → get_or l i 0 < 2 ^ 64) → [] ≡ column_of x l
column_none x l h f =
    sym (sift_none (λ k. eqb (col k) x) l (all_from (λ k. eqb (col k) x ≡ false) l (λ i. let b = f i in ne_eqb (col (get_or l i 0)) x (λ e. omega arith))))

-- ---- the rows of a column from y on
row_test : (x y k : ℕ) → col k ≡ x → leb (x * W + y) k ≡ leb y (row k)
row_test x y k e =
    ⊎_elim
    (λ h. rw (lt-leb (x * W + y) k h, lt-leb y (row k) (omega arith)))
    (λ h. rw (le-leb (x * W + y) k h, le-leb y (row k) (omega arith)))
    (lt_or_ge k (x * W + y))

pub rows_are : (x y at : ℕ) (l : List ℕ) → AscL 0 l → InColumn x l → at ≡ rank (x * W + y) l → drop at l ≡ rows_from y l
rows_are x y at l a c e =
    ap (λ (n : ℕ). drop n l) e
    ∙ sym (sift_from (x * W + y) 0 l a)
    ∙ sift_same (leb (x * W + y)) (λ k. leb y (row k)) l (all_map l (row_test x y) c)

-- no row is as high
pub rows_none : (y : ℕ) (l : List ℕ) → W ≤ y → [] ≡ rows_from y l
rows_none y l h = sym (sift_none (λ k. leb y (row k)) l (all_from (λ k. leb y (row k) ≡ false) l (λ i. lt-leb y (row (get_or l i 0)) (omega arith))))

pub rows_empty : (y : ℕ) (l : List ℕ) → length l ≡ 0 → [] ≡ rows_from y l
unfolding sift
rows_empty y [] e = refl
rows_empty y (k ∷ l) e = absurd (omega arith)
