-- `root_units` from the root r of M * 2 ^ 52 to the nearest whole number: it is r at the exponent k, where the radicand is M * 2 ^ 52 * 4 ^ k. No tie can occur, since four times a
-- whole number is even and an odd number's square is odd. Assumes nothing.
use Rattle.std.proofs.Common.{◌≡◌, ℕ, ◌+◌, ◌-◌, ◌*◌, ◌/◌, ◌^◌, ◌<◌, ◌≤◌, false, not, T, sym, refl, ap, ◌∙◌, ⊎_elim, le_trans, le_of_eq, lt_of_lt_of_le, lt_of_le_of_lt, mul-le-mul_right, mul-lt-mul_of_pos_right, lt_of_not-le, mul_right_comm, not-le_of_lt, mul-div_cancel, two-mul, add-one, arith, eqb→eq, leb→le, pow_pos, pow_mono, pow-add}
use Prim.Native.Nat.{compare, Ordering}
use native.Mathlib.Nat.{mul-mul-mul_comm}
use lib.Dec.{is_le, compare_is_eq, nleb→lt}
use lib.Ieee.{Float, binary64, size, nearest, units}
use lib.Ieee.Digits.{size-lt, size-le}
use Rattle.ieee.specs.Root.{isqrt, root_units}
use Rattle.ieee.specs.RootSteps.{Rounded}
use Rattle.ieee.proofs.Squares.{sq_next, sq_double, root_ge, root_lt, isqrt_law}
use Rattle.ieee.proofs.RootChecked.{rounded_one, side}

-- ---- what `compare` says
is_lt : (a b : ℕ) → a < b → compare a b ≡ Ordering.lt
is_lt a b h = go (compare a b) (nleb→lt a b) (eqb→eq a b)
  where
    no : b < a → ⊥
    no k = omega arith

    ne : a ≡ b → ⊥
    ne k = omega arith

    go : (o : Ordering) → (T (not (is_le o)) → b < a) → (T (compare_is_eq o) → a ≡ b) → o ≡ Ordering.lt
    go Ordering.lt k e = refl
    go Ordering.eq k e = absurd (ne (e tt))
    go Ordering.gt k e = absurd (no (k tt))

is_gt : (a b : ℕ) → b < a → compare a b ≡ Ordering.gt
is_gt a b h = go (compare a b) (leb→le a b)
  where
    no : a ≤ b → ⊥
    no k = omega arith

    go : (o : Ordering) → (T (is_le o) → a ≤ b) → o ≡ Ordering.gt
    go Ordering.lt k = absurd (no (k tt))
    go Ordering.eq k = absurd (no (k tt))
    go Ordering.gt k = refl

-- ---- four times b against the square of 2 q + 1, both times d, picks the number that b's root is rounded to
abbrev mid : ℕ → ℕ
mid q = (2 * q + 1) * (2 * q + 1)

picked : (b d r : ℕ) → 0 < b → 0 < d → Rounded b r → nearest (isqrt b) (compare (b * d * 4) (mid (isqrt b) * d)) ≡ r
picked b d r B D h =
    let q = isqrt b in
    ⊎_elim
    (λ s. ap (nearest q) (is_lt (b * d * 4) (mid q * d) (lt_of_le_of_lt (le_of_eq (mul_right_comm b d 4)) (mul-lt-mul_of_pos_right (under q s.0) D))) ∙ rounded_one b q r s.1 h)
    (λ s. ap (nearest q) (is_gt (b * d * 4) (mid q * d) (lt_of_lt_of_le (mul-lt-mul_of_pos_right (over q s.0) D) (le_of_eq (mul_right_comm b 4 d)))) ∙ sym (add-one q) ∙ rounded_one b (q + 1) r s.1 h)
    (side b B)
  where
    under : (q : ℕ) → b ≤ q * q + q → b * 4 < mid q
    under q l = let s = sq_next (2 * q) in let t = sq_double q in omega arith

    over : (q : ℕ) → q * q + q < b → mid q < b * 4
    over q l = let s = sq_next (2 * q) in let t = sq_double q in omega arith

-- ---- `root_units` with its w and its k as variables
abbrev body : ℕ → ℕ → Float
body w k = units binary64 false (nearest (isqrt (w / 2 ^ (2 * k))) (compare (w * 4) (mid (isqrt (w / 2 ^ (2 * k))) * 2 ^ (2 * k)))) k

is_body : (n : ℕ) → root_units n ≡ body (n * 2 ^ 1074) (size (isqrt (n * 2 ^ 1074)) - 53)
unfolding root_units
is_body n = refl

sq_pow : (a k : ℕ) → a * a * 2 ^ (2 * k) ≡ a * 2 ^ k * (a * 2 ^ k)
sq_pow a k = ap (λ (x : ℕ). a * a * x) (ap (λ (x : ℕ). 2 ^ x) (two-mul k) ∙ pow-add 2 k k) ∙ mul-mul-mul_comm a a (2 ^ k) (2 ^ k)

size_gt : (n j : ℕ) → 2 ^ j ≤ n → j < size n
size_gt n j h = lt_of_not-le (λ (g : size n ≤ j). not-le_of_lt (lt_of_lt_of_le (size-lt n) (pow_mono g)) h)

module _ (n M k r : ℕ) (W : n * 2 ^ 1074 ≡ M * 2 ^ 52 * 2 ^ (2 * k)) (lo : 2 ^ 52 ≤ M) (hi : M < 2 ^ 54) (h : Rounded (M * 2 ^ 52) r) where
  root_lo : 2 ^ (52 + k) ≤ isqrt (n * 2 ^ 1074)
  root_lo =
      le_trans (le_of_eq (pow-add 2 52 k))
      (root_ge (n * 2 ^ 1074) (isqrt (n * 2 ^ 1074)) (2 ^ 52 * 2 ^ k) (isqrt_law (n * 2 ^ 1074))
      (le_trans (le_of_eq (sym (sq_pow (2 ^ 52) k))) (le_trans (mul-le-mul_right (2 ^ (2 * k)) least) (le_of_eq (sym W)))))
    where
      least : 2 ^ 52 * 2 ^ 52 ≤ M * 2 ^ 52
      least = omega arith

  root_hi : isqrt (n * 2 ^ 1074) < 2 ^ (53 + k)
  root_hi =
      lt_of_lt_of_le
      (root_lt (n * 2 ^ 1074) (isqrt (n * 2 ^ 1074)) (2 ^ 53 * 2 ^ k) (isqrt_law (n * 2 ^ 1074))
      (lt_of_le_of_lt (le_of_eq W) (lt_of_lt_of_le (mul-lt-mul_of_pos_right most (pow_pos (2 * k))) (le_of_eq (sq_pow (2 ^ 53) k)))))
      (le_of_eq (sym (pow-add 2 53 k)))
    where
      most : M * 2 ^ 52 < 2 ^ 53 * 2 ^ 53
      most = omega arith

  dropped : size (isqrt (n * 2 ^ 1074)) - 53 ≡ k
  dropped = go (size (isqrt (n * 2 ^ 1074))) (size_gt (isqrt (n * 2 ^ 1074)) (52 + k) root_lo) (size-le (isqrt (n * 2 ^ 1074)) (53 + k) root_hi)
    where
      go : (z : ℕ) → 52 + k < z → z ≤ 53 + k → z - 53 ≡ k
      go z a b = omega arith

  pub root_core : root_units n ≡ units binary64 false r k
  root_core =
      let b = M * 2 ^ 52 in
      let d = 2 ^ (2 * k) in
      is_body n
      ∙ ap (λ (j : ℕ). body (n * 2 ^ 1074) j) dropped
      ∙ ap (λ (w : ℕ). body w k) W
      ∙ ap (λ (q : ℕ). units binary64 false (nearest q (compare (b * d * 4) (mid q * d))) k) (ap isqrt (mul-div_cancel b (pow_pos (2 * k))))
      ∙ ap (λ (q : ℕ). units binary64 false q k) (picked b d r (omega arith) (pow_pos (2 * k)) h)
