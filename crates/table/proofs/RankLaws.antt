-- The place of a key in an ascending list. Assumes nothing.
use Prim.Native.Nat.{ℕ, zero, suc, ◌+◌, ◌≤◌, ◌<◌, zero-le, suc-le-suc}
use native.Mathlib.Nat.{le_of_suc-le-suc, not-suc-le-zero}
use native.Mathlib.Omega.{arith}
use mathlib.Core.Path.{◌≡◌, refl, ap}
use mathlib.Core.Logic.{⊎_elim}
use mathlib.Core.Bool.{Bool, true, false, cond}
use mathlib.Core.List.{List, [], ◌∷◌}
use lib.Dec.{ltb}
use lib.ListN.{length, take, drop, get_or}
use borrow.Author.Tests.{lt-ltb, le-ltb}
use Rattle.ieee.proofs.Tools.{lt_or_ge}
use Rattle.model.specs.Maps.{AscL}
use Rattle.table.specs.Tables.{All, rank}
use Rattle.table.proofs.AllLaws.{all_at, all_map, asc_l_all}

pub rank_le : (k : ℕ) (l : List ℕ) → rank k l ≤ length l
unfolding rank
rank_le k [] = zero-le
rank_le k (x ∷ l) = go (ltb x k) (rank_le k l)
  where
    go : (b : Bool) → rank k l ≤ length l → cond b (suc (rank k l)) 0 ≤ suc (length l)
    go true ih = suc-le-suc ih
    go false ih = zero-le

-- every key is below k
pub rank_all : (k : ℕ) (l : List ℕ) → All (λ x. x < k) l → rank k l ≡ length l
unfolding rank
rank_all k [] a = refl
rank_all k (x ∷ l) a = rw (lt-ltb x k a.0) (ap suc (rank_all k l a.1))

-- a key below k stands before k's place, any other at that place or after it
pub rank_above : (lo k : ℕ) (l : List ℕ) (i : ℕ) → AscL lo l → i < length l → get_or l i 0 < k → i < rank k l
unfolding rank
rank_above lo k [] i a h b = absurd (not-suc-le-zero h)
rank_above lo k (x ∷ l) zero a h b = rw (lt-ltb x k b) (suc-le-suc zero-le)
rank_above lo k (x ∷ l) (suc i) a h b =
    let j : i < length l = le_of_suc-le-suc h in
    let y : suc x ≤ get_or l i 0 = all_at (λ y. suc x ≤ y) l i (asc_l_all (suc x) l a.1) j in
    rw (lt-ltb x k (omega arith)) (suc-le-suc (rank_above (suc x) k l i a.1 j b))

pub rank_below : (k : ℕ) (l : List ℕ) (i : ℕ) → i < length l → k ≤ get_or l i 0 → rank k l ≤ i
unfolding rank
rank_below k [] i h b = zero-le
rank_below k (x ∷ l) zero h b = rw (le-ltb x k b) zero-le
rank_below k (x ∷ l) (suc i) h b = go (ltb x k) (rank_below k l i (le_of_suc-le-suc h) b)
  where
    go : (t : Bool) → rank k l ≤ i → cond t (suc (rank k l)) 0 ≤ suc i
    go true ih = suc-le-suc ih
    go false ih = zero-le

-- all before k's place are below k, and all from there on are not
pub rank_splits : (lo k : ℕ) (l : List ℕ) → AscL lo l → All (λ x. x < k) (take (rank k l) l) × All (λ x. k ≤ x) (drop (rank k l) l)
unfolding rank
rank_splits lo k [] a = (tt, tt)
rank_splits lo k (x ∷ l) a = ⊎_elim (less (rank_splits (suc x) k l a.1)) more (lt_or_ge x k)
  where
    less : All (λ y. y < k) (take (rank k l) l) × All (λ y. k ≤ y) (drop (rank k l) l) → x < k
        → All (λ y. y < k) (take (rank k (x ∷ l)) (x ∷ l)) × All (λ y. k ≤ y) (drop (rank k (x ∷ l)) (x ∷ l))
    less ih h = rw (lt-ltb x k h) ((h, ih.0), ih.1)

    more : k ≤ x → All (λ y. y < k) (take (rank k (x ∷ l)) (x ∷ l)) × All (λ y. k ≤ y) (drop (rank k (x ∷ l)) (x ∷ l))
    more h = rw (le-ltb x k h) (tt, (h, all_map l (λ y b. omega arith) (asc_l_all (suc x) l a.1)))

-- ---- the search: k's place is at most n places after `at`, and one look halves n
pub record Between (k : ℕ) (l : List ℕ) (at n : ℕ) : Type 0 where
  pub inside : at + n ≤ length l
  pub ends : AscL 0 l → (at ≤ rank k l) × (rank k l ≤ at + n)
