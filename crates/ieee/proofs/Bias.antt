-- The tables' numbers of columns: their range, and their order, which is that of the columns. Assumes nothing.
use Rattle.std.proofs.Common.{◌≡◌, ℕ, suc, ◌+◌, ◌-◌, ◌^◌, ◌<◌, ◌≤◌, min, Bool, true, false, cond, not, ltb, leb, ℤ, pos, negsuc, sym, refl, ap, ◌∙◌, arith, le→leb, leb→le, ltb-false, ltb-true, le-ltb, lt-ltb, le-leb}
use lib.Signed.{lt_z, le_z, mag}
use borrow.Author.Tests.{lt-leb}
use Rattle.ieee.specs.Whole.{biased, unbias}
use Rattle.ieee.proofs.Tools.{same_test, ltb_not}

pub biased_lt : (z : ℤ) → biased z < 2 ^ 32
biased_lt (pos n) = go n
  where
    go : (n : ℕ) → min (n + 2 ^ 31) (2 ^ 32 - 1) < 2 ^ 32
    go n = omega arith
biased_lt (negsuc n) = go n
  where
    go : (n : ℕ) → 2 ^ 31 - suc n < 2 ^ 32
    go n = omega arith

-- ---- the order of the tables' numbers is that of the columns: an occupied column u, which is below 2 ^ 32 - 1, against any integer z, in the range or not
-- z as the tables hold it is at most u exactly when z is at most the column of u: for a lower end, which is included
pub biased_le_iff : (z : ℤ) (u : ℕ) → u < 2 ^ 32 - 1 → leb (biased z) u ≡ le_z z (unbias u)
biased_le_iff z u h = go z (ltb u (2 ^ 31)) (ltb-true u (2 ^ 31)) (ltb-false u (2 ^ 31)) refl
  where
    pos_low : (n : ℕ) → u < 2 ^ 31 → u < min (n + 2 ^ 31) (2 ^ 32 - 1)
    pos_low n k = omega arith

    there : (n : ℕ) → 2 ^ 31 ≤ u → min (n + 2 ^ 31) (2 ^ 32 - 1) ≤ u → n ≤ u - 2 ^ 31
    there n k l = omega arith

    back : (n : ℕ) → 2 ^ 31 ≤ u → n ≤ u - 2 ^ 31 → min (n + 2 ^ 31) (2 ^ 32 - 1) ≤ u
    back n k l = omega arith

    neg_high : (n : ℕ) → 2 ^ 31 ≤ u → 2 ^ 31 - suc n ≤ u
    neg_high n k = omega arith

    down : (n : ℕ) → u < 2 ^ 31 → 2 ^ 31 - suc n ≤ u → 2 ^ 31 - suc u ≤ n
    down n k l = omega arith

    up : (n : ℕ) → u < 2 ^ 31 → 2 ^ 31 - suc u ≤ n → 2 ^ 31 - suc n ≤ u
    up n k l = omega arith

    go : (z : ℤ) (b : Bool) → (ltb u (2 ^ 31) ≡ true → u < 2 ^ 31) → (ltb u (2 ^ 31) ≡ false → 2 ^ 31 ≤ u) → ltb u (2 ^ 31) ≡ b → leb (biased z) u ≡ le_z z (cond b (negsuc (2 ^ 31 - suc u)) (pos (u - 2 ^ 31)))
    go (pos n) true f g e = lt-leb (min (n + 2 ^ 31) (2 ^ 32 - 1)) u (pos_low n (f e))
    go (pos n) false f g e =
        same_test (leb (min (n + 2 ^ 31) (2 ^ 32 - 1)) u) (leb n (u - 2 ^ 31))
        (λ t. le→leb n (u - 2 ^ 31) (there n (g e) (leb→le (min (n + 2 ^ 31) (2 ^ 32 - 1)) u t)))
        (λ t. le→leb (min (n + 2 ^ 31) (2 ^ 32 - 1)) u (back n (g e) (leb→le n (u - 2 ^ 31) t)))
    go (negsuc n) true f g e =
        same_test (leb (2 ^ 31 - suc n) u) (leb (2 ^ 31 - suc u) n)
        (λ t. le→leb (2 ^ 31 - suc u) n (down n (f e) (leb→le (2 ^ 31 - suc n) u t)))
        (λ t. le→leb (2 ^ 31 - suc n) u (up n (f e) (leb→le (2 ^ 31 - suc u) n t)))
    go (negsuc n) false f g e = le-leb (2 ^ 31 - suc n) u (neg_high n (g e))

lt_z_not : (z w : ℤ) → lt_z z w ≡ not (le_z w z)
lt_z_not (pos a) (pos b) = ltb_not a b
lt_z_not (pos a) (negsuc b) = refl
lt_z_not (negsuc a) (pos b) = refl
lt_z_not (negsuc a) (negsuc b) = ltb_not b a

-- u is below z as the tables hold it exactly when the column of u is below z: for an upper end, which is excluded
pub biased_lt_iff : (z : ℤ) (u : ℕ) → u < 2 ^ 32 - 1 → ltb u (biased z) ≡ lt_z (unbias u) z
biased_lt_iff z u h = ltb_not u (biased z) ∙ ap not (biased_le_iff z u h) ∙ sym (lt_z_not (unbias u) z)

-- there and back
pub biased_unbias : (u : ℕ) → u < 2 ^ 32 → biased (unbias u) ≡ u
biased_unbias u h = go (ltb u (2 ^ 31)) refl
  where
    low : u < 2 ^ 31 → 2 ^ 31 - suc (2 ^ 31 - suc u) ≡ u
    low k = omega arith

    high : 2 ^ 31 ≤ u → min (u - 2 ^ 31 + 2 ^ 31) (2 ^ 32 - 1) ≡ u
    high k = omega arith

    go : (b : Bool) → ltb u (2 ^ 31) ≡ b → biased (cond b (negsuc (2 ^ 31 - suc u)) (pos (u - 2 ^ 31))) ≡ u
    go true e = low (ltb-true u (2 ^ 31) e)
    go false e = high (ltb-false u (2 ^ 31) e)

pub unbias_biased : (z : ℤ) → mag z < 2 ^ 31 - 1 → unbias (biased z) ≡ z
unbias_biased (pos n) h =
    ap (λ (b : Bool). cond b (negsuc (2 ^ 31 - suc (min (n + 2 ^ 31) (2 ^ 32 - 1)))) (pos (min (n + 2 ^ 31) (2 ^ 32 - 1) - 2 ^ 31))) (le-ltb (min (n + 2 ^ 31) (2 ^ 32 - 1)) (2 ^ 31) (omega arith))
    ∙ ap pos (go n h)
  where
    go : (n : ℕ) → n < 2 ^ 31 - 1 → min (n + 2 ^ 31) (2 ^ 32 - 1) - 2 ^ 31 ≡ n
    go n h = omega arith
unbias_biased (negsuc n) h =
    ap (λ (b : Bool). cond b (negsuc (2 ^ 31 - suc (2 ^ 31 - suc n))) (pos (2 ^ 31 - suc n - 2 ^ 31))) (lt-ltb (2 ^ 31 - suc n) (2 ^ 31) (omega arith))
    ∙ ap negsuc (go n h)
  where
    go : (n : ℕ) → n < 2 ^ 31 - 1 → 2 ^ 31 - suc (2 ^ 31 - suc n) ≡ n
    go n h = omega arith
