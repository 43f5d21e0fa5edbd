-- Bit patterns of positive binary64 values, in units of the smallest value, 2 ^ -1074. Assumes nothing.
use Rattle.std.proofs.Common.{◌≡◌, ℕ, zero, suc, ◌+◌, ◌-◌, ◌*◌, ◌/◌, ◌%◌, ◌^◌, ◌<◌, ◌≤◌, Bool, true, false, cond, not, T, eqb, ltb, leb, ℤ, sym, refl, ap, ◌∙◌, subst, le_of_eq, lt_of_lt_of_le, mod-eq_of_lt, zero-lt-suc, div-lt_iff_lt-mul, mul-lt-mul_of_pos_right, pow-suc, mul-one, mul_right_comm, not-le_of_lt, mul-div_cancel, arith, eqb→eq, leb→le, pow_pos, pow_mono, shl_lt, ltb-false, ltb-true, le-ltb, lt-ltb}
use lib.Dec.{not_T}
use lib.Count.{count_trailing_zeros, under}
use lib.Ieee.{Float, nan, inf, fin, binary64, up, down, size, odd, units, of_fields, of_bits, to_bits, nan_bits, fits, minus}
use lib.Ieee.Fits.{kept-lt, down_pos}
use lib.Ieee.Digits.{size-le}
use lib.Ieee.Bits.{is_false, cond_no, of_bits-to_bits, nan_bits_above}
use lib.Ieee.Exact.{HasValue, odd_sign}
use Rattle.ieee.specs.RootSteps.{bit_units}
use Rattle.ieee.proofs.Tools.{held}

-- ---- what a pattern below the infinity's stands for
of_bits_is : (b : ℕ) → of_bits binary64 b ≡ of_fields binary64 (leb (2 ^ 63) b) (b % 2 ^ 63 / 2 ^ 52) (b % 2 ^ 52)
unfolding of_bits
of_bits_is b = refl

differ : (x : ℕ) → suc x < 2047 → suc x ≡ 2047 → ⊥
differ x h e = omega arith

under_ones : (t x : ℕ) → suc x < 2047 → of_fields binary64 false (suc x) t ≡ odd 53 false (2 ^ 52 + t) x 1074
unfolding of_fields
under_ones t x h =
    cond_no (eqb (suc x) 2047) (cond (eqb t 0) (inf false) nan) (odd 53 false (2 ^ 52 + t) x 1074) (not_T (eqb (suc x) 2047) (λ (u : T (eqb (suc x) 2047)). differ x h (eqb→eq (suc x) 2047 u)))

at_zero : (t : ℕ) → of_fields binary64 false 0 t ≡ odd 53 false t 0 1074
unfolding of_fields
at_zero t = refl

positive : (b : ℕ) → b < 2 ^ 63 → of_bits binary64 b ≡ of_fields binary64 false (b / 2 ^ 52) (b % 2 ^ 52)
positive b k =
    of_bits_is b
    ∙ ap (λ (s : Bool). of_fields binary64 s (b % 2 ^ 63 / 2 ^ 52) (b % 2 ^ 52)) (is_false (leb (2 ^ 63) b) (not_T (leb (2 ^ 63) b) (λ (u : T (leb (2 ^ 63) b)). not-le_of_lt k (leb→le (2 ^ 63) b u))))
    ∙ ap (λ (x : ℕ). of_fields binary64 false (x / 2 ^ 52) (b % 2 ^ 52)) (mod-eq_of_lt k)

-- a field of 1 to 2046
normal : (b : ℕ) → 2 ^ 52 ≤ b → b < 2047 * 2 ^ 52 → of_bits binary64 b ≡ odd 53 false (2 ^ 52 + b % 2 ^ 52) (b / 2 ^ 52 - 1) 1074
normal b h k =
    positive b (omega arith)
    ∙ ap (λ (x : ℕ). of_fields binary64 false x (b % 2 ^ 52)) (field b h)
    ∙ under_ones (b % 2 ^ 52) (b / 2 ^ 52 - 1) (field_lt b h k)
  where
    field : (b : ℕ) → 2 ^ 52 ≤ b → b / 2 ^ 52 ≡ suc (b / 2 ^ 52 - 1)
    field b h = omega arith

    field_lt : (b : ℕ) → 2 ^ 52 ≤ b → b < 2047 * 2 ^ 52 → suc (b / 2 ^ 52 - 1) < 2047
    field_lt b h k = omega arith

-- a field of 0
subnormal : (b : ℕ) → b < 2 ^ 52 → of_bits binary64 b ≡ odd 53 false b 0 1074
subnormal b h =
    positive b (omega arith)
    ∙ ap (λ (x : ℕ). of_fields binary64 false x (b % 2 ^ 52)) (none b h)
    ∙ ap (λ (x : ℕ). of_fields binary64 false 0 x) (mod-eq_of_lt h)
    ∙ at_zero b
  where
    none : (b : ℕ) → b < 2 ^ 52 → b / 2 ^ 52 ≡ 0
    none b h = omega arith

pub units_low : (b : ℕ) → b < 2 ^ 52 → bit_units b ≡ b
unfolding bit_units
units_low b h = ap (λ (t : Bool). cond t b ((2 ^ 52 + b % 2 ^ 52) * 2 ^ (b / 2 ^ 52 - 1))) (lt-ltb b (2 ^ 52) h)

pub units_high : (b : ℕ) → 2 ^ 52 ≤ b → bit_units b ≡ (2 ^ 52 + b % 2 ^ 52) * 2 ^ (b / 2 ^ 52 - 1)
unfolding bit_units
units_high b h = ap (λ (t : Bool). cond t b ((2 ^ 52 + b % 2 ^ 52) * 2 ^ (b / 2 ^ 52 - 1))) (le-ltb b (2 ^ 52) h)

pub bits_value : (b : ℕ) → b < 2047 * 2 ^ 52 → HasValue (of_bits binary64 b) false (bit_units b) (2 ^ 1074)
bits_value b k = go (ltb b (2 ^ 52)) refl
  where
    go : (t : Bool) → ltb b (2 ^ 52) ≡ t → HasValue (of_bits binary64 b) false (bit_units b) (2 ^ 1074)
    go true h =
        let l = ltb-true b (2 ^ 52) h in
        subst (λ (x : Float). HasValue x false (bit_units b) (2 ^ 1074)) (sym (subnormal b l))
        (subst (λ (n : ℕ). HasValue (odd 53 false b 0 1074) false n (2 ^ 1074)) (mul-one b ∙ sym (units_low b l)) (odd_sign 53 false b 0 1074))
    go false h =
        let l = ltb-false b (2 ^ 52) h in
        subst (λ (x : Float). HasValue x false (bit_units b) (2 ^ 1074)) (sym (normal b l k))
        (subst (λ (n : ℕ). HasValue (odd 53 false (2 ^ 52 + b % 2 ^ 52) (b / 2 ^ 52 - 1) 1074) false n (2 ^ 1074)) (sym (units_high b l)) (odd_sign 53 false (2 ^ 52 + b % 2 ^ 52) (b / 2 ^ 52 - 1) 1074))

-- ---- the bits of a positive finite value are below the infinity's
bits_is : (m : ℕ) (e : ℤ) → to_bits binary64 (fin false m e) ≡ 0 + (size (m * up e * 2 ^ 1074 / down e) - 53) * 2 ^ 52 + m * up e * 2 ^ 1074 / down e / 2 ^ (size (m * up e * 2 ^ 1074 / down e) - 53)
unfolding to_bits
bits_is m e = refl

pub bits_under : (m : ℕ) (e : ℤ) → T (fits binary64 (fin false m e)) → to_bits binary64 (fin false m e) < 2047 * 2 ^ 52
bits_under m e h =
    let n = m * up e * 2 ^ 1074 / down e in
    let r = (held false m e h).1 in
    let l : n < 2 ^ 2098 = (div-lt_iff_lt-mul (down_pos e)).1 (lt_of_lt_of_le (mul-lt-mul_of_pos_right r (pow_pos 1074)) (le_of_eq (mul_right_comm (2 ^ 1024) (down e) (2 ^ 1074)))) in
    subst (λ (x : ℕ). x < 2047 * 2 ^ 52) (sym (bits_is m e)) (go (size n) (n / 2 ^ (size n - 53)) (size-le n 2098 l) (kept-lt 53 n))
  where
    go : (z u : ℕ) → z ≤ 2098 → u < 2 ^ 53 → 0 + (z - 53) * 2 ^ 52 + u < 2047 * 2 ^ 52
    go z u a b = omega arith

-- the value, in units, by its bits
pub units_of : (m : ℕ) (e : ℤ) → T (fits binary64 (fin false m e)) → m * up e * 2 ^ 1074 / down e ≡ bit_units (to_bits binary64 (fin false m e))
units_of m e h =
    let x = fin false m e in
    let b = to_bits binary64 x in
    let v : HasValue x false (bit_units b) (2 ^ 1074) = subst (λ (y : Float). HasValue y false (bit_units b) (2 ^ 1074)) (of_bits-to_bits binary64 x h) (bits_value b (bits_under m e h)) in
    ap (λ (y : ℕ). y / down e) v.1 ∙ mul-div_cancel (bit_units b) (down_pos e)

-- ---- a result: q with 53 digits at the exponent k has the pattern k * 2 ^ 52 + q
half_pos : (n : ℕ) → 0 < n → n % 2 ≡ 0 → 0 < n / 2
half_pos n h e = omega arith

half_lt : (n p : ℕ) → n < p * 2 → n / 2 < p
half_lt n p h = omega arith

no_one : (n : ℕ) → 0 < n → n < 1 → ⊥
no_one n h k = omega arith

tz_more : (d n : ℕ) → 0 < n → n < 2 ^ d → count_trailing_zeros d n ≡ count_trailing_zeros (suc d) n
unfolding count_trailing_zeros
tz_more zero n h k = absurd (no_one n h k)
tz_more (suc d) n h k = go (n % 2) refl (λ e. tz_more d (n / 2) (half_pos n h e) (half_lt n (2 ^ d) (subst (λ (x : ℕ). n < x) (pow-suc 2 d) k)))
  where
    go : (r : ℕ) → n % 2 ≡ r → (n % 2 ≡ 0 → count_trailing_zeros d (n / 2) ≡ count_trailing_zeros (suc d) (n / 2)) → under r (count_trailing_zeros d (n / 2)) ≡ under r (count_trailing_zeros (suc d) (n / 2))
    go zero e ih = ap suc (ih e)
    go (suc r) e ih = refl

odd_more : (d : ℕ) (s : Bool) (q k l : ℕ) → q < 2 ^ d → odd d s q k l ≡ odd (suc d) s q k l
unfolding odd
odd_more d s zero k l h = refl
odd_more d s (suc q) k l h = ap (λ (t : ℕ). fin s (suc q / 2 ^ t) (minus (k + t) l)) (tz_more d (suc q) (zero-lt-suc q) h)

is_units : (q k : ℕ) → q * 2 ^ k < 2 ^ 2098 → units binary64 false q k ≡ odd 54 false q k 1074
unfolding units
is_units q k h = ap (λ (t : Bool). cond t (odd 54 false q k 1074) (inf false)) (lt-ltb (q * 2 ^ k) (2 ^ 2098) h)

pub units_bits : (q k : ℕ) → 2 ^ 52 ≤ q → q < 2 ^ 53 → k ≤ 2045 → of_bits binary64 (k * 2 ^ 52 + q) ≡ units binary64 false q k
units_bits q k h l r =
    normal (k * 2 ^ 52 + q) (omega arith) (omega arith)
    ∙ ap (λ (x : ℕ). odd 53 false x ((k * 2 ^ 52 + q) / 2 ^ 52 - 1) 1074) (digits q k h l)
    ∙ ap (λ (x : ℕ). odd 53 false q x 1074) (expo q k h l)
    ∙ odd_more 53 false q k 1074 l
    ∙ sym (is_units q k (lt_of_lt_of_le (shl_lt 53 k l) (pow_mono (room k r))))
  where
    digits : (q k : ℕ) → 2 ^ 52 ≤ q → q < 2 ^ 53 → 2 ^ 52 + (k * 2 ^ 52 + q) % 2 ^ 52 ≡ q
    digits q k h l = omega arith

    expo : (q k : ℕ) → 2 ^ 52 ≤ q → q < 2 ^ 53 → (k * 2 ^ 52 + q) / 2 ^ 52 - 1 ≡ k
    expo q k h l = omega arith

    room : (k : ℕ) → k ≤ 2045 → 53 + k ≤ 2098
    room k h = omega arith

-- and is no NaN's
pub no_nan_bits : (b : ℕ) → b ≤ 2047 * 2 ^ 52 → T (not (nan_bits binary64 b))
no_nan_bits b h = subst (λ (t : Bool). T (not t)) (sym (nan_bits_above binary64 b ∙ le-ltb (2047 * 2 ^ 52) (b % 2 ^ 63) (go b h))) tt
  where
    go : (b : ℕ) → b ≤ 2047 * 2 ^ 52 → b % 2 ^ 63 ≤ 2047 * 2 ^ 52
    go b h = omega arith
