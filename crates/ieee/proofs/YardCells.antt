-- The cells of the square, in whole numbers: with the shift s they are the columns from n - (s - 1) to n + (s - 1). Assumes nothing.
use Rattle.std.proofs.Common.{◌≡◌, ℕ, zero, suc, ◌+◌, ◌-◌, ◌*◌, ◌<◌, ◌≤◌, ℤ, pos, ◌+ℤ◌, ◌-ℤ◌, ◌*ℤ◌, refl, ap, zero-lt-suc, mul_comm, mul-pos, mul_left_comm, arith}
use Rattle.ieee.specs.Yard.{twice_centre_z, low_z, high_z, shift_n}
use Rattle.ieee.proofs.Integers.{ups, downs, add_parts, less_parts, mul_parts, div_unique, up_unique, ceil_rest}

double : (x c : ℕ) → x * (2 * c) ≡ 2 * (x * c)
double x c = mul_left_comm x 2 c

-- twice the centre is 2 C n + C
pub centre_parts : (C : ℕ) (n : ℤ) → ups (twice_centre_z C n) + downs n * (2 * C) ≡ ups n * (2 * C) + C + downs (twice_centre_z C n)
centre_parts C n =
    let m = pos 2 *ℤ n in
    let w = m +ℤ pos 1 in
    go C (ups n) (downs n) (ups m) (downs m) (ups w) (downs w) (ups (pos C *ℤ w)) (downs (pos C *ℤ w)) (mul_parts 2 n) (add_parts m (pos 1)) (mul_parts C w)
  where
    go : (C p q a b c d x y : ℕ) → a + 2 * q ≡ 2 * p + b → c + (b + 0) ≡ a + 1 + d → x + C * d ≡ C * c + y → x + q * (2 * C) ≡ p * (2 * C) + C + y
    go C p q a b c d x y h k l =
        let e : c + 2 * q ≡ 2 * p + 1 + d = omega arith in
        let f : (c + 2 * q) * C ≡ (2 * p + 1 + d) * C = ap (λ (n : ℕ). n * C) e in
        let g = mul_comm C d in
        let i = mul_comm C c in
        let r = double p C in
        let s = double q C in
        omega arith

-- the shift is at least 1
pub shift_pos : (C R : ℕ) → 0 < C → 0 < shift_n C R
shift_pos C R h = go (shift_n C R) (ceil_rest (2 * R + C) (2 * C) (mul-pos (zero-lt-suc 1) h)).0
  where
    go : (s : ℕ) → 2 * R + C ≤ s * (2 * C) → 0 < s
    go zero k = omega arith
    go (suc s) k = omega arith

-- With d = 2 C and r = s d - (2 R + C), which is below d: C (2 n + 1) - 2 R is (n - (s - 1)) d + r, and C (2 n + 1) + 2 R is (n + s) d - r
module _ (C R : ℕ) (n : ℤ) (pos-C : 0 < C) where
  rest : ℕ
  rest = shift_n C R * (2 * C) - (2 * R + C)

  rest_is : (rest < 2 * C) × (rest + (2 * R + C) ≡ shift_n C R * (2 * C))
  unfolding rest
  rest_is = let h = ceil_rest (2 * R + C) (2 * C) (mul-pos (zero-lt-suc 1) pos-C) in go (shift_n C R * (2 * C)) h.0 h.1
    where
      go : (x : ℕ) → 2 * R + C ≤ x → x < 2 * R + C + 2 * C → (x - (2 * R + C) < 2 * C) × (x - (2 * R + C) + (2 * R + C) ≡ x)
      go x h k = (omega arith, omega arith)

  abbrev s : ℕ
  s = shift_n C R

  abbrev mid : ℤ
  mid = twice_centre_z C n

  -- the square's first cell is s - 1 before n
  pub low_cell : low_z C R n ≡ n -ℤ pos (shift_n C R - 1)
  low_cell =
      let z = mid -ℤ pos (2 * R) in
      let w = n -ℤ pos (s - 1) in
      div_unique z w (2 * C) rest rest_is.0
      (go (2 * C) s rest (ups n) (downs n) (ups mid) (downs mid) (ups w) (downs w) (ups z) (downs z) refl (shift_pos C R pos-C) rest_is.1 (centre_parts C n) (less_parts n (pos (s - 1)))
      (less_parts mid (pos (2 * R))))
    where
      go : (d s r p q x y a b e f : ℕ) → d ≡ 2 * C → 0 < s → r + (2 * R + C) ≡ s * d → x + q * d ≡ p * d + C + y → a + (q + (s - 1)) ≡ p + 0 + b
          → e + (y + 2 * R) ≡ x + 0 + f → e + b * d ≡ f + a * d + r
      go d s r p q x y a b e f h i j k l m =
          let g : a + q + s ≡ p + b + 1 = omega arith in
          let o : (a + q + s) * d ≡ (p + b + 1) * d = ap (λ (n : ℕ). n * d) g in
          omega arith

  -- the cell past its last is s after n
  pub high_cell : high_z C R n ≡ n +ℤ pos (shift_n C R)
  high_cell =
      let z = mid +ℤ pos (2 * R) in
      let w = n +ℤ pos s in
      up_unique z w (2 * C) rest rest_is.0
      (go (2 * C) s rest (ups n) (downs n) (ups mid) (downs mid) (ups w) (downs w) (ups z) (downs z) rest_is.1 (centre_parts C n) (add_parts n (pos s)) (add_parts mid (pos (2 * R))))
    where
      go : (d s r p q x y a b e f : ℕ) → r + (2 * R + C) ≡ s * d → x + q * d ≡ p * d + C + y → a + (q + 0) ≡ p + s + b → e + (y + 0) ≡ x + 2 * R + f → f + a * d ≡ e + b * d + r
      go d s r p q x y a b e f j k l m = let o : (a + (q + 0)) * d ≡ (p + s + b) * d = ap (λ (n : ℕ). n * d) l in omega arith
