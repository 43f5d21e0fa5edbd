-- `isqrt n` is the one number r with r * r ≤ n < (r + 1) * (r + 1). Assumes nothing.
use Rattle.std.proofs.Common.{◌≡◌, ℕ, zero, suc, ◌+◌, ◌*◌, ◌/◌, ◌^◌, ◌<◌, ◌≤◌, Bool, true, false, cond, not, T, leb, ap, ◌∙◌, subst, zero-le, le_refl, lt_of_lt_of_le, lt_of_le_of_lt, add-mul, mul-le-mul, le_antisymm, pow-suc, lt_of_not-le, mul-add, not-le_of_lt, arith, leb→le}
use native.Mathlib.Nat.{mul-mul-mul_comm}
use lib.Dec.{nleb→lt}
use lib.Ieee.{size}
use lib.Ieee.Digits.{size-lt}
use Rattle.ieee.specs.Root.{Rooted, digit, root_in, isqrt}

pub sq_next : (r : ℕ) → (r + 1) * (r + 1) ≡ r * r + 2 * r + 1
sq_next r = mul-add (r + 1) r 1 ∙ ap (λ (x : ℕ). x + (r + 1) * 1) (add-mul r 1 r) ∙ go (r * r) r
  where
    go : (s r : ℕ) → s + 1 * r + (r + 1) * 1 ≡ s + 2 * r + 1
    go s r = omega arith

pub sq_double : (r : ℕ) → 2 * r * (2 * r) ≡ 4 * (r * r)
sq_double r = mul-mul-mul_comm 2 r 2 r

pub sq_mono : {a b : ℕ} → a ≤ b → a * a ≤ b * b
sq_mono h = mul-le-mul h h

-- what is below in square is below
pub sq_back : (a b : ℕ) → a * a < b * b → a < b
sq_back a b h = lt_of_not-le (λ (g : b ≤ a). not-le_of_lt h (sq_mono g))

-- a ≤ the root of n, and a above it
pub root_ge : (n r a : ℕ) → Rooted n r → a * a ≤ n → a ≤ r
root_ge n r a h k = down a r (sq_back a (r + 1) (lt_of_le_of_lt k h.1))
  where
    down : (a r : ℕ) → a < r + 1 → a ≤ r
    down a r h = omega arith

pub root_lt : (n r a : ℕ) → Rooted n r → n < a * a → r < a
root_lt n r a h k = sq_back r a (lt_of_le_of_lt h.0 k)

pub rooted_one : (n r s : ℕ) → Rooted n r → Rooted n s → r ≡ s
rooted_one n r s h k = le_antisymm (root_ge n s r k h.0) (root_ge n r s h k.0)

-- ---- one digit more
step : (n r : ℕ) → Rooted (n / 4) r → Rooted n (digit n (2 * r))
unfolding digit
step n r h = go (leb ((2 * r + 1) * (2 * r + 1)) n) (leb→le ((2 * r + 1) * (2 * r + 1)) n) (nleb→lt ((2 * r + 1) * (2 * r + 1)) n)
  where
    low : 2 * r * (2 * r) ≤ n
    low = let e = sq_double r in let l = h.0 in omega arith

    high : n < (2 * r + 1 + 1) * (2 * r + 1 + 1)
    high = let e = sq_next (2 * r + 1) in let f = sq_next (2 * r) in let g = sq_double r in let k = sq_next r in let l = h.1 in omega arith

    go : (b : Bool) → (T b → (2 * r + 1) * (2 * r + 1) ≤ n) → (T (not b) → n < (2 * r + 1) * (2 * r + 1)) → Rooted n (cond b (2 * r + 1) (2 * r))
    go true p q = (p tt, high)
    go false p q = (low, q tt)

four : (n p : ℕ) → n < p * 4 → n / 4 < p
four n p h = omega arith

root_in_law : (j n : ℕ) → n < 4 ^ j → Rooted n (root_in j n)
unfolding root_in
root_in_law zero n h = (zero-le, h)
root_in_law (suc j) n h = step n (root_in j (n / 4)) (root_in_law j (n / 4) (four n (4 ^ j) (subst (λ (x : ℕ). n < x) (pow-suc 4 j) h)))

two_four : (j : ℕ) → 2 ^ j ≤ 4 ^ j
two_four zero = le_refl 1
two_four (suc j) = let a = two_four j in let b = pow-suc 2 j in let c = pow-suc 4 j in omega arith

pub isqrt_law : (n : ℕ) → Rooted n (isqrt n)
unfolding isqrt
isqrt_law n = root_in_law (size n) n (lt_of_lt_of_le (size-lt n) (two_four (size n)))
