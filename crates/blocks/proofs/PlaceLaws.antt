-- The places of members, in ascending lists above all. Assumes nothing.
use Prim.Native.Nat.{ℕ, suc, ◌+◌, ◌-◌, ◌≤◌, ◌<◌, zero-le, suc-le-suc}
use native.Mathlib.Decide.{dec_lt}
use native.Mathlib.Omega.{arith}
use mathlib.Core.Path.{◌≡◌, sym, ap, ◌∙◌}
use mathlib.Core.Logic.{⊎_elim}
use mathlib.Core.List.{List, [], ◌∷◌}
use lib.Dec.{T}
use lib.ListN.{length, drop, get_or, length-drop}
use lib.Seq.{get_or-drop}
use Rattle.model.specs.Maps.{AscL, has}
use Rattle.model.proofs.MapLaws.{has_cases}
use Rattle.table.specs.Tables.{rank}
use Rattle.table.proofs.AllLaws.{all_at, asc_l_all, asc_l_drop, asc_l_less}
use Rattle.table.proofs.RankLaws.{rank_above, rank_below}

-- each member is at a place
pub has_place : (k : ℕ) (l : List ℕ) → T (has k l) → (j : ℕ) × (j < length l) × (get_or l j 0 ≡ k)
unfolding has
has_place k [] u = absurd u
has_place k (x ∷ l) u = ⊎_elim (λ e. (0, suc-le-suc zero-le, sym e)) (later (has_place k l)) (has_cases k x l u)
  where
    later : (T (has k l) → (j : ℕ) × (j < length l) × (get_or l j 0 ≡ k)) → T (has k l) → (j : ℕ) × (j < length (x ∷ l)) × (get_or (x ∷ l) j 0 ≡ k)
    later f v = let r = f v in (suc r.0, suc-le-suc r.1, r.2)

-- ---- ascending lists
pub asc_above : (lo k : ℕ) (l : List ℕ) → AscL lo l → T (has k l) → lo ≤ k
asc_above lo k l a u = let r = has_place k l u in rw (sym r.2) (all_at (λ x. lo ≤ x) l r.0 (asc_l_all lo l a) r.1)

-- a member is at one place only
pub asc_one : (l : List ℕ) → AscL 0 l → (i j : ℕ) → i < length l → j < length l → get_or l i 0 ≡ get_or l j 0 → i ≡ j
asc_one l a i j h k e = go (dec_lt i j) (dec_lt j i)
  where
    go : Dec (i < j) → Dec (j < i) → i ≡ j
    go (yes b) d = absurd (omega (arith, asc_l_less 0 l i j a b k))
    go (no b) (yes d) = absurd (omega (arith, asc_l_less 0 l j i a d h))
    go (no b) (no d) = omega arith

pub rank_at : (l : List ℕ) → AscL 0 l → (j : ℕ) → j < length l → rank (get_or l j 0) l ≡ j
rank_at l a j h = go (rank_below (get_or l j 0) l j h (omega arith)) (dec_lt (rank (get_or l j 0) l) j)
  where
    r : ℕ
    r = rank (get_or l j 0) l

    go : r ≤ j → Dec (r < j) → r ≡ j
    go b (yes d) = absurd (let s : r < r = rank_above 0 (get_or l j 0) l r a (omega arith) (asc_l_less 0 l r j a d h) in let x = r in omega arith)
    go b (no d) = let x = r in omega arith

-- a member that comes after place i is found there
pub rank_after : (l : List ℕ) → AscL 0 l → (i j : ℕ) → i < j → j < length l → suc i + rank (get_or l j 0) (drop (suc i) l) ≡ j
rank_after l a i j h k =
    let s : suc i + (j - suc i) ≡ j = omega arith in
    let e : get_or (drop (suc i) l) (j - suc i) 0 ≡ get_or l j 0 = get_or-drop (suc i) l (j - suc i) 0 ∙ ap (λ (x : ℕ). get_or l x 0) s in
    let r : rank (get_or (drop (suc i) l) (j - suc i) 0) (drop (suc i) l) ≡ j - suc i = rank_at (drop (suc i) l) (asc_l_drop 0 (suc i) l a) (j - suc i) (rw (length-drop (suc i) l) (omega arith)) in
    let q : rank (get_or l j 0) (drop (suc i) l) ≡ j - suc i = rw e at r in
    omega arith
