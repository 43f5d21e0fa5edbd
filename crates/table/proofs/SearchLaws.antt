-- A search in an ascending table by powers of two. Assumes nothing.
use Prim.Native.Nat.{ℕ, suc, ◌+◌, ◌-◌, ◌*◌, ◌%◌, ◌^◌, ◌≤◌, ◌<◌, zero-le}
use native.Mathlib.Nat.{mod-eq_of_lt, pow-suc}
use native.Mathlib.Numerals.{add-one}
use native.Mathlib.Omega.{arith}
use mathlib.Core.Path.{◌≡◌, refl, ap, ◌∙◌}
use mathlib.Core.Bool.{Bool, true, false, cond}
use mathlib.Core.List.{List}
use lib.Count.{count_leading_zeros, leading_top}
use lib.Dec.{ltb}
use lib.ListN.{length, get_or}
use lib.Pow.{pow-lt, pow_mono, pow_pos}
use mir.Val.{bool_byte}
use borrow.Author.Tests.{ltb-false, ltb-true}
use Rattle.table.specs.Tables.{rank}
use Rattle.table.proofs.RankLaws.{Between, rank_above, rank_below, rank_le}
use Rattle.table.specs.Search.{Placed, begun, looked}

-- ---- powers of two as the code makes them
pub power_is : (s : ℕ) → s < 64 → 1 * 2 ^ s % 2 ^ 64 ≡ 2 ^ s
power_is s h = let e : 1 * 2 ^ s ≡ 2 ^ s = omega arith in rw e (mod-eq_of_lt (pow-lt h))

shifted_is : (b : Bool) (s : ℕ) → s < 64 → bool_byte b * 2 ^ s % 2 ^ 64 ≡ cond b (2 ^ s) 0
shifted_is true s h = power_is s h
shifted_is false s h = let e : 0 * 2 ^ s ≡ 0 = omega arith in rw e refl

pub look_is : (l : List ℕ) (at s k p : ℕ) → s < 64 → p ≡ 2 ^ s → at + bool_byte (ltb (get_or l (at + p - 1) 0) k) * 2 ^ s % 2 ^ 64 ≡ looked l at (2 ^ s) k
unfolding looked
look_is l at s k p h e = rw (shifted_is (ltb (get_or l (at + p - 1) 0) k) s h, e)

pub looked_le : (l : List ℕ) (at h k : ℕ) → looked l at h k ≤ at + h
unfolding looked
looked_le l at h k = go (ltb (get_or l (at + h - 1) 0) k)
  where
    go : (b : Bool) → at + cond b h 0 ≤ at + h
    go true = omega arith
    go false = omega arith

pub exponent_is : (n : ℕ) → 0 < n → n < 2 ^ 64 → (count_leading_zeros 64 n ≤ 63) × (2 ^ (63 - count_leading_zeros 64 n) ≤ n) × (n < 2 ^ (63 - count_leading_zeros 64 n + 1))
exponent_is n p h =
    let t = leading_top 64 n p h in
    let e : 63 - count_leading_zeros 64 n ≡ t.0 = omega (arith, t.1) in
    (omega (arith, t.1), rw e t.2, rw (e, add-one t.0) t.3)

-- ---- the looks
begun_between : (k : ℕ) (l : List ℕ) (p : ℕ) → 0 < p → p ≤ length l → length l ≤ 2 * p → Between k l (begun l p k) p
unfolding begun
begun_between k l p some h j = go (ltb (get_or l (p - 1) 0) k) (ltb-true (get_or l (p - 1) 0) k) (ltb-false (get_or l (p - 1) 0) k)
  where
    go : (b : Bool) → (b ≡ true → get_or l (p - 1) 0 < k) → (b ≡ false → k ≤ get_or l (p - 1) 0) → Between k l (cond b (length l - p) 0) p
    go true f g = record {
      inside = omega arith;
      ends = λ a. let q : p - 1 < rank k l = rank_above 0 k l (p - 1) a (omega arith) (f refl) in omega (arith, rank_le k l);
    }
    go false f g = record {
      inside = omega arith;
      ends = λ a. let q : rank k l ≤ p - 1 = rank_below k l (p - 1) (omega arith) (g refl) in omega arith;
    }

-- a look halves what is left
looked_between : (k : ℕ) (l : List ℕ) (at h m : ℕ) → 0 < h → h ≤ m → 2 * h ≤ m + 1 → Between k l at m → Between k l (looked l at h k) (m - h)
unfolding looked
looked_between k l at h m some le half b = go (ltb (get_or l (at + h - 1) 0) k) (ltb-true (get_or l (at + h - 1) 0) k) (ltb-false (get_or l (at + h - 1) 0) k)
  where
    go : (t : Bool) → (t ≡ true → get_or l (at + h - 1) 0 < k) → (t ≡ false → k ≤ get_or l (at + h - 1) 0) → Between k l (at + cond t h 0) (m - h)
    go true f g = record {
      inside = omega (arith, b.inside);
      ends = λ a. let q : at + h - 1 < rank k l = rank_above 0 k l (at + h - 1) a (omega (arith, b.inside)) (f refl) in omega (arith, b.ends a);
    }
    go false f g = record {
      inside = omega (arith, b.inside);
      ends = λ a. let q : rank k l ≤ at + h - 1 = rank_below k l (at + h - 1) (omega (arith, b.inside)) (g refl) in omega (arith, b.ends a);
    }

-- ---- as the loop has them: the place is at most 2 ^ s places further
abbrev pub Within : ℕ → List ℕ → ℕ → ℕ → Type 0
Within k l at s = Between k l at (2 ^ s)

pub within_first : (k : ℕ) (l : List ℕ) (s : ℕ) → 2 ^ s ≤ length l → length l < 2 ^ (s + 1) → Within k l (begun l (2 ^ s) k) s
within_first k l s h j =
    let e : 2 ^ (s + 1) ≡ 2 ^ s * 2 = ap (λ (x : ℕ). 2 ^ x) (add-one s) ∙ pow-suc 2 s in
    begun_between k l (2 ^ s) (pow_pos s) h (omega arith)

pub within_next : (k : ℕ) (l : List ℕ) (at s : ℕ) → 0 < s → Within k l at s → Within k l (looked l at (2 ^ (s - 1)) k) (s - 1)
within_next k l at s p b =
    let d : s ≡ suc (s - 1) = omega arith in
    let e : 2 ^ s ≡ 2 ^ (s - 1) * 2 = ap (λ (x : ℕ). 2 ^ x) d ∙ pow-suc 2 (s - 1) in
    let z : 2 ^ s - 2 ^ (s - 1) ≡ 2 ^ (s - 1) = omega arith in
    rw z at (looked_between k l at (2 ^ (s - 1)) (2 ^ s) (pow_pos (s - 1)) (omega arith) (omega arith) b)

pub within_last : (k : ℕ) (l : List ℕ) (at s : ℕ) → s ≤ 0 → Within k l at s → Placed l k (looked l at (2 ^ 0) k)
within_last k l at s z b =
    let e : s ≡ 0 = omega arith in
    let o : Between k l at 1 = rw e at b in
    let n = looked_between k l at 1 1 (omega arith) (omega arith) (omega arith) o in
    record { inside = omega (arith, n.inside); place = λ a. omega (arith, n.ends a) }

-- what a look reads is there
pub within_room : (k : ℕ) (l : List ℕ) (at s : ℕ) → 0 < s → Within k l at s → at + 2 ^ (s - 1) ≤ length l
within_room k l at s p b =
    let m : 2 ^ (s - 1) ≤ 2 ^ s = pow_mono (omega arith) in
    omega (arith, b.inside)

pub within_last_room : (k : ℕ) (l : List ℕ) (at s : ℕ) → s ≤ 0 → Within k l at s → at + 2 ^ 0 ≤ length l
within_last_room k l at s z b =
    let o : s ≡ 0 = omega arith in
    let w : Within k l at 0 = rw o at b in
    omega (arith, w.inside)

-- in an empty table
pub placed_none : (l : List ℕ) → length l ≡ 0 → (k : ℕ) → Placed l k 0
placed_none l e k = record { inside = zero-le; place = λ a. omega (arith, rank_le k l) }
