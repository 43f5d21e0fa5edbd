-- `root_units` is the nearest multiple of 2 ^ k units to the root: with w = n * 2 ^ 1074, whose root is the root of n units in units, the result is v * 2 ^ k units and
-- (v - 1/2) * 2 ^ k ≤ root of w ≤ (v + 1/2) * 2 ^ k, which is said of the squares, each times 4. Assumes nothing.
use Rattle.std.proofs.Common.{◌≡◌, ℕ, zero, suc, ◌+◌, ◌-◌, ◌*◌, ◌/◌, ◌%◌, ◌^◌, ◌<◌, ◌≤◌, false, not, T, sym, refl, ap, ◌∙◌, subst, le_trans, le_of_eq, le_of_lt, mul-le-mul_right, mul_assoc, div-lt_iff_lt-mul, le-div_iff_mul-le, arith, eqb→eq, leb→le, pow_pos}
use Prim.Native.Nat.{compare, Ordering}
use lib.Dec.{is_le, compare_is_eq, nleb→lt}
use lib.Ieee.{binary64, size, nearest, units}
use Rattle.ieee.specs.Root.{Rooted, Nearest, isqrt, root_units}
use Rattle.ieee.proofs.Squares.{sq_double, sq_mono, isqrt_law}

module _ (w d q : ℕ) (D : 0 < d) (h : Rooted (w / d) q) where
  low : q * q * d ≤ w
  low = (le-div_iff_mul-le D).0 h.0

  high : w < (q + 1) * (q + 1) * d
  high = (div-lt_iff_lt-mul D).0 h.1

  mid : ℕ
  mid = (2 * q + 1) * (2 * q + 1)

  -- four times a square, times d
  four : (r : ℕ) → 2 * r * (2 * r) * d ≡ 4 * (r * r * d)
  four r = ap (λ (x : ℕ). x * d) (sq_double r) ∙ mul_assoc 4 (r * r) d

  at_q : w * 4 ≤ (2 * q + 1) * (2 * q + 1) * d → Nearest w d q
  at_q k = record { above = k; below = le_trans (mul-le-mul_right d (sq_mono (less q))) (let f = four q in let l = low in omega arith) }
    where
      less : (q : ℕ) → 2 * q - 1 ≤ 2 * q
      less q = omega arith

  at_next : (2 * q + 1) * (2 * q + 1) * d ≤ w * 4 → Nearest w d (suc q)
  at_next k = record {
    above = le_trans (let f = four (q + 1) in let g = high in w4 f g) (mul-le-mul_right d (sq_mono (more q)));
    below = subst (λ (x : ℕ). x * x * d ≤ w * 4) (sym (odd q)) k;
  }
    where
      w4 : 2 * (q + 1) * (2 * (q + 1)) * d ≡ 4 * ((q + 1) * (q + 1) * d) → w < (q + 1) * (q + 1) * d → w * 4 ≤ 2 * (q + 1) * (2 * (q + 1)) * d
      w4 f g = omega arith

      more : (q : ℕ) → 2 * (q + 1) ≤ 2 * suc q + 1
      more q = omega arith

      odd : (q : ℕ) → 2 * suc q - 1 ≡ 2 * q + 1
      odd q = omega arith

  at_tie : w * 4 ≡ (2 * q + 1) * (2 * q + 1) * d → (r : ℕ) → q % 2 ≡ r → Nearest w d (q + r)
  at_tie e zero k = subst (λ (x : ℕ). Nearest w d x) (plus q) (at_q (le_of_eq e))
    where
      plus : (q : ℕ) → q ≡ q + 0
      plus q = omega arith
  at_tie e (suc r) k = subst (λ (x : ℕ). Nearest w d x) (plus q r k) (at_next (le_of_eq (sym e)))
    where
      plus : (q r : ℕ) → q % 2 ≡ suc r → suc q ≡ q + suc r
      plus q r k = omega arith

  chosen : (o : Ordering) → (T (is_le o) → w * 4 ≤ (2 * q + 1) * (2 * q + 1) * d) → (T (not (is_le o)) → (2 * q + 1) * (2 * q + 1) * d < w * 4) → (T (compare_is_eq o) → w * 4 ≡ (2 * q + 1) * (2 * q + 1) * d) → Nearest w d (nearest q o)
  chosen Ordering.lt f g e = at_q (f tt)
  chosen Ordering.eq f g e = at_tie (e tt) (q % 2) refl
  chosen Ordering.gt f g e = at_next (le_of_lt (g tt))

pub root_nearest : (n : ℕ) → (v k : ℕ) × (root_units n ≡ units binary64 false v k) × Nearest (n * 2 ^ 1074) (2 ^ (2 * k)) v
unfolding root_units
root_nearest n =
    let w = n * 2 ^ 1074 in
    let k = size (isqrt w) - 53 in
    let d = 2 ^ (2 * k) in
    let q = isqrt (w / d) in
    let x = (2 * q + 1) * (2 * q + 1) * d in (
      nearest q (compare (w * 4) x),
      k,
      refl,
      chosen w d q (pow_pos (2 * k)) (isqrt_law (w / d)) (compare (w * 4) x) (leb→le (w * 4) x) (nleb→lt (w * 4) x) (eqb→eq (w * 4) x),
    )
