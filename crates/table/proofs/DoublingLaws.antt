-- The place of a key that is among the first of an ascending list. Assumes nothing.
use Prim.Native.Nat.{ℕ, zero, suc, ◌+◌, ◌-◌, ◌*◌, ◌≤◌, ◌<◌, zero-le}
use native.Mathlib.Nat.{le_of_suc-le-suc, not-suc-le-zero}
use native.Mathlib.Omega.{arith}
use mathlib.Core.Path.{◌≡◌, refl, sym, ap}
use mathlib.Core.Bool.{Bool, true, false, cond}
use mathlib.Core.List.{List, [], ◌∷◌}
use lib.Dec.{ltb}
use lib.ListN.{length, take, drop, get_or}
use Rattle.model.specs.Maps.{AscL}
use Rattle.table.specs.Tables.{rank}
use Rattle.table.proofs.RankLaws.{rank_above, rank_below, rank_le}

-- ---- the search in a stretch: k's place there is its place, where the stretch has it
rank_front : (k m : ℕ) (l : List ℕ) → rank k l ≤ m → rank k (take m l) ≡ rank k l
unfolding rank
rank_front k zero [] h = refl
rank_front k (suc m) [] h = refl
rank_front k zero (x ∷ l) h = let e : rank k (x ∷ l) ≡ 0 = omega arith in sym e
rank_front k (suc m) (x ∷ l) h = go (ltb x k) h (rank_front k m l)
  where
    go : (b : Bool) → cond b (suc (rank k l)) 0 ≤ suc m → (rank k l ≤ m → rank k (take m l) ≡ rank k l) → ◌≡◌ {A = ℕ} (cond b (suc (rank k (take m l))) 0) (cond b (suc (rank k l)) 0)
    go true b ih = ap suc (ih (le_of_suc-le-suc b))
    go false b ih = refl

rank_skips : (k at : ℕ) (l : List ℕ) → at ≤ rank k l → at + rank k (drop at l) ≡ rank k l
unfolding rank
rank_skips k zero l h = let r = rank k l in omega arith
rank_skips k (suc at) [] h = absurd (not-suc-le-zero h)
rank_skips k (suc at) (x ∷ l) h = go (ltb x k) h (rank_skips k at l)
  where
    go : (b : Bool) → suc at ≤ cond b (suc (rank k l)) 0 → (at ≤ rank k l → at + rank k (drop at l) ≡ rank k l) → ◌≡◌ {A = ℕ} (suc at + rank k (drop at l)) (cond b (suc (rank k l)) 0)
    go true b ih = let e = ih (le_of_suc-le-suc b) in omega arith
    go false b ih = absurd (not-suc-le-zero b)

pub rank_part : (k at m : ℕ) (l : List ℕ) → at ≤ rank k l → rank k l ≤ at + m → at + rank k (take m (drop at l)) ≡ rank k l
rank_part k at m l low high =
    let e = rank_skips k at l low in
    let h : rank k (drop at l) ≤ m = omega arith in
    let f = rank_front k m (drop at l) h in
    omega arith

-- ---- the search that doubles: no key before `at` is k's place, and n is looked at next
pub record Doubled (k : ℕ) (l : List ℕ) (at n : ℕ) : Type 0 where
  pub order : at ≤ n
  pub inside : at ≤ length l
  pub small : n ≤ 2 * length l
  pub low : AscL 0 l → at ≤ rank k l

pub doubled_none : (k : ℕ) (l : List ℕ) → Doubled k l 0 0
doubled_none k l = record { order = zero-le; inside = zero-le; small = zero-le; low = λ a. zero-le }

module _ (k : ℕ) (l : List ℕ) (at n : ℕ) (d : Doubled k l at n) where
  pub doubled_more : n < length l → get_or l n 0 < k → Doubled k l (n + 1) (2 * n + 1)
  doubled_more h b = record {
    order = omega arith;
    inside = omega arith;
    small = omega arith;
    low = λ a. omega (arith, rank_above 0 k l n a h b);
  }

  -- the stretch up to n, and the whole rest
  pub doubled_ends : n < length l → k ≤ get_or l n 0 → AscL 0 l → at + rank k (take (n - at) (drop at l)) ≡ rank k l
  doubled_ends h b a =
      let low = d.low a in
      let r = rank_below k l n h b in
      let high : rank k l ≤ at + (n - at) = omega (arith, d.order) in
      rank_part k at (n - at) l low high

  pub doubled_out : AscL 0 l → at + rank k (take (length l - at) (drop at l)) ≡ rank k l
  doubled_out a =
      let r = rank_le k l in
      let high : rank k l ≤ at + (length l - at) = omega (arith, d.inside) in
      rank_part k at (length l - at) l (d.low a) high
