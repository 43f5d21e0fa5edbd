-- Adding 1.5 * 2 ^ 52 to a float brings it to a whole number beside it, which then stands in the low bits of the sum; the difference from that is the whole number itself. Assumes nothing.
use Rattle.std.proofs.Common.{◌≡◌, ℕ, ◌+◌, ◌-◌, ◌*◌, ◌/◌, ◌%◌, ◌^◌, ◌<◌, ◌≤◌, Bool, true, false, sym, refl, ap, ◌∙◌, subst, zero-le, mul-one, arith, pow_pos, lt-ltb, leb-true}
use lib.IntN.{sub_ℕ}
use lib.Ieee.{Float, binary64, add, sub, lt, le, of_int, of_bits, to_bits}
use lib.Ieee.Fits.{add-fits}
use lib.Ieee.Bits.{of_bits-to_bits, of_bits-fits}
use lib.Ieee.Exact.{HasValue}
use lib.Ieee.Back.{whole_unique}
use lib.Ieee.Scale.{finite}
use Rattle.ieee.specs.Constants.{nought}
use Rattle.ieee.specs.RootSteps.{bit_units}
use Rattle.ieee.proofs.RootBits.{units_high, bits_value}
use Rattle.ieee.proofs.Patterns.{zero_is, lt_patterns, le_patterns, le_some_left, le_some_right}
use Rattle.ieee.proofs.Thresholds.{above_range}
use Rattle.ieee.proofs.Integers.{ups, downs, sub_parts, parts_le, mag_parts}
use Rattle.ieee.proofs.Dyadic.{Off, Is, off_lt, revalue, is_shift, is_sum, is_less}
use Rattle.ieee.proofs.DyadicWhole.{is_int}
use Rattle.ieee.proofs.Monotone.{le_self, lt_le_trans, finite_number}
use Rattle.ieee.proofs.MonotoneSum.{add_mono, number_add}

-- 1.5 * 2 ^ 52
abbrev pub shifter : Float
shifter = of_bits binary64 4843621399236968448

pub shifter_finite : finite shifter ≡ true
unfolding of_bits
shifter_finite = refl

-- ---- the whole numbers n - 2 ^ 32, for n up to 2 ^ 33, and the patterns of their sums with the shifter
abbrev pub pattern : ℕ → ℕ
pattern n = 4843621394942001152 + n

pattern_value : (n : ℕ) → n ≤ 2 ^ 33 → HasValue (of_bits binary64 (pattern n)) false (6755395146088448 + n) 1
pattern_value n h =
    revalue (of_bits binary64 (pattern n)) false (bit_units (pattern n)) (2 ^ 1074) (6755395146088448 + n) 1 (pow_pos 1074)
    (sym (mul-one (bit_units (pattern n))
    ∙ units_high (pattern n) (omega arith)
    ∙ ap (λ (x : ℕ). x * 2 ^ (pattern n / 2 ^ 52 - 1)) (digits n h)
    ∙ ap (λ (x : ℕ). (6755395146088448 + n) * 2 ^ x) (expo n h)))
    (bits_value (pattern n) (omega arith))
  where
    digits : (n : ℕ) → n ≤ 2 ^ 33 → 2 ^ 52 + pattern n % 2 ^ 52 ≡ 6755395146088448 + n
    digits n h = omega arith

    expo : (n : ℕ) → n ≤ 2 ^ 33 → pattern n / 2 ^ 52 - 1 ≡ 1074
    expo n h = omega arith

shifter_value : HasValue shifter false 6755399441055744 1
shifter_value = pattern_value (2 ^ 32) (omega arith)

-- such a number as a float
abbrev pub point : ℕ → Float
point n = of_int binary64 (sub_ℕ n (2 ^ 32))

pub point_is : (n : ℕ) → n ≤ 2 ^ 33 → Is (point n) n (2 ^ 32) 0
point_is n h =
    let z = sub_ℕ n (2 ^ 32) in
    let p = sub_parts n (2 ^ 32) in
    let l = parts_le z n (2 ^ 32) p in
    let m = mag_parts z in
    is_shift (point n) (ups z) (downs z) n (2 ^ 32) 0 p (is_int z (omega arith))

-- a float that is a number above zero
positive_value : (x : Float) (a b n : ℕ) → 0 < n → a ≡ b + n → Is x a b 0 → HasValue x false n 1
positive_value x a b n N e v = go v.sign v.size v.value v.off
  where
    go : (s : Bool) (m : ℕ) → HasValue x s m 1 → Off s m a b → HasValue x false n 1
    go false m h o = let i : m ≡ n = omega arith in subst (λ (k : ℕ). HasValue x false k 1) i h
    go true m h o = absurd (let z : ⊥ = omega arith in z)

-- ---- the sum with the shifter is exact
shifted : (y : Float) (n : ℕ) → n ≤ 2 ^ 33 → Is y n (2 ^ 32) 0 → add binary64 y shifter ≡ of_bits binary64 (pattern n)
shifted y n h v =
    let l : v.size < 2 ^ 34 = off_lt v.sign v.size n (2 ^ 32) (2 ^ 34) v.off (omega arith) (omega arith) in
    let w = is_sum y shifter n (2 ^ 32) 6755399441055744 0 0 zero-le v (record { sign = false; size = 6755399441055744; value = shifter_value; off = omega arith }) (omega arith) (omega arith) (λ e. omega arith) in
    whole_unique binary64 (add binary64 y shifter) (of_bits binary64 (pattern n)) false (6755395146088448 + n) (add-fits binary64 y shifter) (of_bits-fits binary64 (pattern n))
    (positive_value (add binary64 y shifter) (n + 6755399441055744) (2 ^ 32 + 0) (6755395146088448 + n) (omega arith) (omega arith) w)
    (pattern_value n h)

-- and so is the difference
pub shifted_back : (n : ℕ) → n ≤ 2 ^ 33 → Is (sub binary64 (of_bits binary64 (pattern n)) shifter) n (2 ^ 32) 0
shifted_back n h =
    is_shift (sub binary64 (of_bits binary64 (pattern n)) shifter) (6755395146088448 + n) 6755399441055744 n (2 ^ 32) 0 (omega arith)
    (is_less (of_bits binary64 (pattern n)) shifter (6755395146088448 + n) 6755399441055744 0 zero-le (omega arith) (omega arith) (pattern_value n h) shifter_value)

-- ---- x between two whole numbers y and z: so is the sum's pattern, since adding keeps the order
module _ (x y z : Float) (v w : ℕ) (vs : v ≤ 2 ^ 33) (ws : w ≤ 2 ^ 33) (yv : Is y v (2 ^ 32) 0) (zw : Is z w (2 ^ 32) 0) (low : le y x ≡ true) (high : le x z ≡ true) where
  abbrev rounded : Float
  rounded = add binary64 x shifter

  step : (a b : Float) → le a b ≡ true → le (add binary64 a shifter) (add binary64 b shifter) ≡ true
  step a b h =
      add_mono a b shifter shifter h (le_self shifter (finite_number shifter shifter_finite)) (number_add a shifter (le_some_left a b h) shifter_finite) (number_add b shifter (le_some_right a b h) shifter_finite)

  low_sum : le (of_bits binary64 (pattern v)) rounded ≡ true
  low_sum = subst (λ (a : Float). le a rounded ≡ true) (shifted y v vs yv) (step y x low)

  high_sum : le rounded (of_bits binary64 (pattern w)) ≡ true
  high_sum = subst (λ (a : Float). le rounded a ≡ true) (shifted z w ws zw) (step x z high)

  above : lt nought rounded ≡ true
  above =
      lt_le_trans nought (of_bits binary64 (pattern v)) rounded
      (subst (λ (a : Float). lt a (of_bits binary64 (pattern v)) ≡ true) zero_is (lt_patterns 0 (pattern v) zero-le (omega arith) ∙ lt-ltb 0 (pattern v) (omega arith)))
      low_sum

  pub between : (pattern v ≤ to_bits binary64 rounded) × (to_bits binary64 rounded ≤ pattern w)
  between =
      let b = to_bits binary64 rounded in
      let r = above_range rounded (add-fits binary64 x shifter) above in
      let e = of_bits-to_bits binary64 rounded (add-fits binary64 x shifter) in (
        leb-true (pattern v) b (sym (le_patterns (pattern v) b (omega arith) r) ∙ subst (λ (a : Float). le (of_bits binary64 (pattern v)) a ≡ true) (sym e) low_sum),
        leb-true b (pattern w) (sym (le_patterns b (pattern w) r (omega arith)) ∙ subst (λ (a : Float). le a (of_bits binary64 (pattern w)) ≡ true) (sym e) high_sum),
      )

-- ---- where the sum has the pattern of n, what the code takes off again leaves n
pub taken_off : (x : Float) (n : ℕ) → n ≤ 2 ^ 33 → to_bits binary64 (add binary64 x shifter) ≡ pattern n → Is (sub binary64 (add binary64 x shifter) shifter) n (2 ^ 32) 0
taken_off x n h e =
    subst (λ (a : Float). Is (sub binary64 a shifter) n (2 ^ 32) 0) (ap (of_bits binary64) (sym e) ∙ of_bits-to_bits binary64 (add binary64 x shifter) (add-fits binary64 x shifter)) (shifted_back n h)
