-- What the tests of the yard class tell: the cell size is 2 ^ k, the radius is a whole number and at most 2 ^ 16, the shift is at most 64. Assumes nothing.
use Rattle.std.proofs.Common.{◌≡◌, ℕ, zero, suc, ◌+◌, ◌-◌, ◌*◌, ◌/◌, ◌^◌, ◌<◌, ◌≤◌, min, Bool, true, false, ◌&&◌, T, eqb, ltb, ◌⊎◌, ℤ, pos, sym, refl, ap, ◌∙◌, subst, inl, inr, true≢false, le_trans, le_of_eq, mul-le-mul_right, zero-lt-suc, mul_comm, mul-pos, one-mul, zero-mul, mul-one, mul_right_comm, le_of_mul-le-mul_right, div-one, arith, lit<, lit≤, eqb→eq, lt→ltb, leb→le, pow_pos, pow_mono, pow-add, ltb-false, ltb-true}
use lib.Signed.{le_z}
use lib.Pow.{pow-lt}
use lib.Ieee.{Float, nan, inf, fin, binary64, up, down, round, sum, add, div, lt, eq, le, level, unlike, fits, is_nan, of_int, to_unsigned}
use lib.Ieee.Fits.{and_l, and_r, down_pos}
use lib.Ieee.Exact.{HasValue}
use lib.Ieee.Back.{round_whole, whole_unique}
use lib.Ieee.Order.{round_mono}
use borrow.Author.Tests.{lt-leb}
use Rattle.ieee.specs.Constants.{nought, half, pow2}
use Rattle.ieee.specs.Whole.{ceil_div, ceil_z, floor_f}
use Rattle.ieee.specs.Yard.{shift_f, is_power, is_whole, in_yard, whole_n, shift_n}
use Rattle.ieee.proofs.Tools.{T_true, or_cases}
use Rattle.ieee.proofs.Floor.{cut_exact}
use Rattle.ieee.proofs.Dyadic.{Is, is_half, is_lift, is_shift, is_add, is_div}
use Rattle.ieee.proofs.DyadicWhole.{ceil_nat}
use Rattle.ieee.proofs.Integers.{ceil_rest}
use Rattle.ieee.proofs.Compare.{eq_whole, both_pos, quot_iff, ceil_at_most, round_number, sum_number}

-- ---- the cell size: a float that equals 2 ^ k is 2 ^ k
pow_value : (k : ℕ) → HasValue (pow2 k) false (2 ^ k) 1
pow_value k = (refl, ap (λ (x : ℕ). x * 1) (one-mul (2 ^ k)))

pow_fits : (k : ℕ) → k < 1024 → T (fits binary64 (pow2 k))
unfolding fits
pow_fits k h = subst (λ (x : ℕ). T (ltb x (2 ^ 1024 * 1))) (sym (one-mul (2 ^ k))) (lt→ltb (2 ^ k) (2 ^ 1024 * 1) (pow-lt h))

level_sign : (s : Bool) (a b : ℕ) → 0 < b → T (level s a false b) → (s ≡ false) × (a ≡ b)
level_sign false a b h t = (refl, eqb→eq a b (and_l (eqb a b) true t))
level_sign true a b h t = absurd (let p = eqb→eq a b (and_l (eqb a b) (eqb a 0) t) in let q = eqb→eq a 0 (and_r (eqb a b) (eqb a 0) t) in let z : ⊥ = omega arith in z)

pow_unique : (c : Float) (k : ℕ) → k < 1024 → T (fits binary64 c) → T (eq c (pow2 k)) → c ≡ pow2 k
pow_unique nan k h f t = absurd (unfold eq in t)
pow_unique (inf s) k h f t = absurd (unfold eq in t)
pow_unique (fin s m e) k h f t =
    let l = level_sign s (m * up e) (2 ^ k * down e) (mul-pos (pow_pos k) (down_pos e)) (subst T (eq_whole s m e (pow2 k) false (2 ^ k) (pow_value k)) t) in
    whole_unique binary64 (fin s m e) (pow2 k) false (2 ^ k) f (pow_fits k h) (l.0, mul-one (m * up e) ∙ l.1) (pow_value k)

power_of : (j : ℕ) → j < 1024 → (c : Float) → T (fits binary64 c) → T (is_power j c) → (k : ℕ) × (1 ≤ k) × (k ≤ j) × (c ≡ pow2 k)
unfolding is_power
power_of zero h c f t = absurd t
power_of (suc j) h c f t = go (or_cases (eq c (pow2 (suc j))) (is_power j c) t) (power_of j (omega arith) c f)
  where
    step : (k : ℕ) → k ≤ j → k ≤ suc j
    step k h = omega arith

    go : T (eq c (pow2 (suc j))) ⊎ T (is_power j c) → (T (is_power j c) → (k : ℕ) × (1 ≤ k) × (k ≤ j) × (c ≡ pow2 k)) → (k : ℕ) × (1 ≤ k) × (k ≤ suc j) × (c ≡ pow2 k)
    go (inl u) ih = (suc j, omega arith, omega arith, pow_unique c (suc j) h f u)
    go (inr u) ih = let r = ih u in (r.0, r.1, step r.0 r.2, r.3)

pow_whole : (k : ℕ) → k ≤ 10 → whole_n (pow2 k) ≡ 2 ^ k
unfolding to_unsigned
pow_whole k h = let p : 2 ^ k ≤ 2 ^ 10 = pow_mono h in ap (λ (x : ℕ). min x (2 ^ 64 - 1)) (div-one (1 * 2 ^ k) ∙ one-mul (2 ^ k)) ∙ go (2 ^ k) p
  where
    go : (x : ℕ) → x ≤ 1024 → min x (2 ^ 64 - 1) ≡ x
    go x h = omega arith

-- ---- the radius: at least M, an infinity included
abbrev AtLeast : Float → ℕ → Type 0
AtLeast nan M = ⊥
AtLeast (inf s) M = s ≡ false
AtLeast (fin s m e) M = (s ≡ false) × (M * down e ≤ m * up e)

-- what the tests leave: a whole number below 2 ^ 40, or at least 2 ^ 40
abbrev Small : Float → Type 0
Small r = (whole_n r < 2 ^ 40) × Is r (whole_n r) 0 0

zero_le_neg : (m : ℕ) (e : ℤ) → T (le nought (fin true m e)) → m * up e ≡ 0
unfolding le lt eq
zero_le_neg m e t =
    let h = eqb→eq (0 * down e) (m * up e * 1) (and_l (eqb (0 * down e) (m * up e * 1)) (eqb (0 * down e) 0) t) in
    omega arith

own_floor : (m : ℕ) (e : ℤ) → T (fits binary64 (fin false m e)) → T (is_whole (fin false m e)) → m * up e ≡ m * up e / down e * down e
unfolding is_whole floor_f
own_floor m e f t =
    let q = m * up e / down e in
    eqb→eq (m * up e) (q * down e) (and_l (eqb (m * up e) (q * down e)) true (subst T (eq_whole false m e (round binary64 false q 1) false q (cut_exact false false m e f)) t))

whole_small : (m : ℕ) (e : ℤ) (q : ℕ) → m * up e / down e ≡ q → m * up e ≡ q * down e → q < 2 ^ 40 → Small (fin false m e)
unfolding to_unsigned
whole_small m e q d h k =
    subst (λ (n : ℕ). (n < 2 ^ 40) × Is (fin false m e) n 0 0) (sym (ap (λ (x : ℕ). min x (2 ^ 64 - 1)) d ∙ go))
    (k, record { sign = false; size = q; value = (refl, mul-one (m * up e) ∙ h); off = omega arith })
  where
    go : min q (2 ^ 64 - 1) ≡ q
    go = omega arith

radius_of : (r : Float) → T (fits binary64 r) → T (is_whole r) → T (le nought r) → Small r ⊎ AtLeast r (2 ^ 40)
radius_of nan f t u = absurd (unfold is_whole eq in t)
radius_of (inf true) f t u = absurd (unfold le lt eq in u)
radius_of (inf false) f t u = inr refl
radius_of (fin true m e) f t u =
    inl (unfold to_unsigned in (lit< tt, record { sign = true; size = 0; value = (refl, mul-one (m * up e) ∙ zero_le_neg m e u ∙ sym (zero-mul (down e))); off = refl }))
radius_of (fin false m e) f t u = go (ltb (m * up e / down e) (2 ^ 40)) refl
  where
    go : (b : Bool) → ltb (m * up e / down e) (2 ^ 40) ≡ b → Small (fin false m e) ⊎ AtLeast (fin false m e) (2 ^ 40)
    go true h = inl (whole_small m e (m * up e / down e) refl (own_floor m e f t) (ltb-true (m * up e / down e) (2 ^ 40) h))
    go false h = inr (refl, le_trans (mul-le-mul_right (down e) (ltb-false (m * up e / down e) (2 ^ 40) h)) (le_of_eq (sym (own_floor m e f t))))

-- ---- a large radius has a large shift, though the steps are not exact there: rounding keeps the order
above : (x y : Float) (M : ℕ) → 0 < M → HasValue x false M 1 → T (le x y) → AtLeast y M
unfolding le lt eq
above nan y M p v t = absurd v
above (inf s) y M p v t = absurd v
above (fin true m e) y M p v t = absurd (true≢false v.0)
above (fin false m e) nan M p v t = absurd t
above (fin false m e) (inf true) M p v t = absurd t
above (fin false m e) (inf false) M p v t = refl
above (fin false m e) (fin true n d) M p v t =
    let a = eqb→eq (m * up e * down d) 0 (and_r (eqb (m * up e * down d) (n * up d * down e)) (eqb (m * up e * down d) 0) t) in
    let b : 0 < m * up e * 1 * down d = mul-pos (subst (λ (x : ℕ). 0 < x) (sym v.1) (mul-pos p (down_pos e))) (down_pos d) in
    let c : m * up e * 1 * down d ≡ m * up e * down d = ap (λ (x : ℕ). x * down d) (mul-one (m * up e)) in
    absurd (let z : ⊥ = omega arith in z)
above (fin false m e) (fin false n d) M p v t =
    let a = leb→le (m * up e * down d) (n * up d * down e) (subst T (both_pos (m * up e * down d) (n * up d * down e)) t) in
    let b : M * down d * down e ≡ m * up e * down d = mul_right_comm M (down d) (down e) ∙ ap (λ (x : ℕ). x * down d) (sym v.1 ∙ mul-one (m * up e)) in
    (refl, le_of_mul-le-mul_right (le_trans (le_of_eq b) a) (down_pos e))

round_least : (num den : ℕ) → 0 < den → 2 ^ 30 * den ≤ num → AtLeast (round binary64 false num den) (2 ^ 30)
round_least num den p h =
    above (round binary64 false (2 ^ 30) 1) (round binary64 false num den) (2 ^ 30) (lit< tt) (round_whole binary64 false (2 ^ 30) (lit≤ tt))
    (round_mono binary64 (2 ^ 30) 1 num den (zero-lt-suc 0) p (le_trans h (le_of_eq (sym (mul-one num)))))

div_least : (k : ℕ) (r : Float) → k ≤ 10 → AtLeast r (2 ^ 40) → AtLeast (div binary64 r (pow2 k)) (2 ^ 30)
unfolding div
div_least k nan K a = a
div_least k (inf true) K a = absurd (true≢false a)
div_least k (inf false) K a = refl
div_least k (fin true m e) K a = absurd (true≢false a.0)
div_least k (fin false m e) K a =
    round_least (m * up e * 1) (1 * 2 ^ k * down e) (mul-pos (mul-pos (zero-lt-suc 0) (pow_pos k)) (down_pos e))
    (let h = a.1 in
    let p : 2 ^ k * down e ≤ 2 ^ 10 * down e = mul-le-mul_right (down e) (pow_mono K) in
    let o : 1 * 2 ^ k * down e ≡ 2 ^ k * down e = ap (λ (x : ℕ). x * down e) (one-mul (2 ^ k)) in
    omega arith)

half_least : (x : Float) → AtLeast x (2 ^ 30) → AtLeast (add binary64 x half) (2 ^ 30)
unfolding add sum
half_least nan a = a
half_least (inf true) a = absurd (true≢false a)
half_least (inf false) a = refl
half_least (fin true m e) a = absurd (true≢false a.0)
half_least (fin false m e) a = round_least (m * up e * 2 + 1 * down e) (down e * 2) (mul-pos (down_pos e) (zero-lt-suc 1)) (let h = a.1 in omega arith)

ceil_least : (x : Float) → AtLeast x (2 ^ 30) → le_z (ceil_z x) (pos 64) ≡ false
unfolding ceil_z
ceil_least nan a = absurd a
ceil_least (inf true) a = absurd (true≢false a)
ceil_least (inf false) a = refl
ceil_least (fin true m e) a = absurd (true≢false a.0)
ceil_least (fin false m e) a = quot_iff (m * up e) (down e) 64 (down_pos e) (lit≤ tt) ∙ lt-leb (m * up e) (64 * down e) (let h = a.1 in let p = down_pos e in omega arith)

-- ---- the shift of a whole radius: no step of it loses anything
pub shift_exact : (k R : ℕ) (r : Float) → k ≤ 10 → R < 2 ^ 40 → Is r R 0 0 → ceil_z (shift_f (pow2 k) r) ≡ pos (shift_n (2 ^ k) R)
unfolding shift_f
shift_exact k R r K h v =
    let c : 2 ^ k ≤ 1024 = pow_mono {j = 10} K in
    let p = is_div k r R 0 0 (omega arith) (omega arith) (omega arith) v in
    let q = subst (λ (j : ℕ). Is (div binary64 r (pow2 k)) (R * 2) 0 j) (flip k) (is_lift (div binary64 r (pow2 k)) R 0 (0 + k) 1 p) in
    let d = is_shift half (1 * 2 ^ k) (0 * 2 ^ k) (2 ^ k) 0 (1 + k) (omega arith) (is_lift half 1 0 1 k is_half) in
    let t = is_add (div binary64 r (pow2 k)) half (R * 2) 0 (2 ^ k) 0 (1 + k) (omega arith) (omega arith) (omega arith) (omega arith) (omega arith) q d in
    ceil_nat (add binary64 (div binary64 r (pow2 k)) half) (R * 2 + 2 ^ k) (1 + k) t (omega arith)
    ∙ ap (λ (x : ℕ). pos (ceil_div (x + 2 ^ k) (2 ^ (1 + k)))) (mul_comm R 2)
    ∙ ap (λ (x : ℕ). pos (ceil_div (2 * R + 2 ^ k) x)) (pow-add 2 1 k)
  where
    flip : (k : ℕ) → 0 + k + 1 ≡ 1 + k
    flip k = omega arith

-- ---- the class in numbers: C = 2 ^ k and R are the whole numbers that c and r are
-- (`whole_n`); `shift_n C R` is the shift. The radius may be -0.
pub record InYard (c r : Float) : Type 0 where
  pub k : ℕ
  pub least : 1 ≤ k
  pub most : k ≤ 10
  pub cell : c ≡ pow2 k
  pub side : whole_n c ≡ 2 ^ k
  pub bound : whole_n r ≤ 2 ^ 16
  pub radius : Is r (whole_n r) 0 0
  pub shift : shift_n (whole_n c) (whole_n r) ≤ 64

module _ (k : ℕ) (r : Float) (K : k ≤ 10) (t : T (le_z (ceil_z (shift_f (pow2 k) r)) (pos 64))) where
  not_large : AtLeast r (2 ^ 40) → ⊥
  unfolding shift_f
  not_large a = subst T (ceil_least (shift_f (pow2 k) r) (half_least (div binary64 r (pow2 k)) (div_least k r K a))) t

  shift_le : Small r → shift_n (2 ^ k) (whole_n r) ≤ 64
  shift_le s = leb→le (shift_n (2 ^ k) (whole_n r)) 64 (subst (λ (z : ℤ). T (le_z z (pos 64))) (shift_exact k (whole_n r) r K s.0 s.1) t)

-- a shift of at most 64 says that 2 R + C is at most 128 C
pub radius_le : (C R : ℕ) → 0 < C → C ≤ 1024 → shift_n C R ≤ 64 → R ≤ 2 ^ 16
radius_le C R p h s = go (shift_n C R * (2 * C)) (ceil_rest (2 * R + C) (2 * C) (mul-pos (zero-lt-suc 1) p)).0 (mul-le-mul_right (2 * C) s)
  where
    go : (x : ℕ) → 2 * R + C ≤ x → x ≤ 64 * (2 * C) → R ≤ 2 ^ 16
    go x a b = omega arith

-- two floats that pass the tests are such a pair
pub in_yard_lem : (c r : Float) → T (fits binary64 c) → T (fits binary64 r) → in_yard c r ≡ true → InYard c r
unfolding in_yard
in_yard_lem c r f g h =
    go (power_of 10 (lit< tt) c f (and_l p (is_whole r) (and_l (p && is_whole r) (le nought r) t))) (and_r (p && is_whole r && le nought r) (le_z (ceil_z (shift_f c r)) (pos 64)) (T_true h))
    (radius_of r g (and_r p (is_whole r) (and_l (p && is_whole r) (le nought r) t)) (and_r (p && is_whole r) (le nought r) t))
  where
    p : Bool
    p = is_power 10 c

    t : T (is_power 10 c && is_whole r && le nought r)
    t = and_l (is_power 10 c && is_whole r && le nought r) (le_z (ceil_z (shift_f c r)) (pos 64)) (T_true h)

    go : (k : ℕ) × (1 ≤ k) × (k ≤ 10) × (c ≡ pow2 k) → T (le_z (ceil_z (shift_f c r)) (pos 64)) → Small r ⊎ AtLeast r (2 ^ 40) → InYard c r
    go (k, low, high, e) u (inr a) = absurd (not_large k r high (subst (λ (x : Float). T (le_z (ceil_z (shift_f x r)) (pos 64))) e u) a)
    go (k, low, high, e) u (inl s) =
        let l = shift_le k r high (subst (λ (x : Float). T (le_z (ceil_z (shift_f x r)) (pos 64))) e u) s in
        let w : whole_n c ≡ 2 ^ k = ap whole_n e ∙ pow_whole k high in
        record {
          k = k;
          least = low;
          most = high;
          cell = e;
          side = w;
          bound = radius_le (2 ^ k) (whole_n r) (pow_pos k) (pow_mono {j = 10} high) l;
          radius = s.1;
          shift = subst (λ (x : ℕ). shift_n x (whole_n r) ≤ 64) (sym w) l;
        }

-- ---- the shift's bound as a test of floats
over_number : (k : ℕ) (r : Float) → T (le nought r) → is_nan (div binary64 r (pow2 k)) ≡ false
unfolding div is_nan
over_number k nan t = absurd (unfold le lt eq in t)
over_number k (inf s) t = refl
over_number k (fin s m e) t = round_number (unlike s false) (m * up e * 1) (1 * 2 ^ k * down e)

plus_number : (x : Float) → is_nan x ≡ false → is_nan (add binary64 x half) ≡ false
unfolding add is_nan
plus_number nan h = h
plus_number (inf s) h = refl
plus_number (fin s m e) h = sum_number s (m * up e * 2) false (1 * down e) (down e * 2)

-- where the tests before it pass, the last test of the class may be taken on floats: the shift's number is at most 64.0
pub shift_at_most : (c r : Float) → T (fits binary64 c) → is_power 10 c ≡ true → le nought r ≡ true → le_z (ceil_z (shift_f c r)) (pos 64) ≡ le (shift_f c r) (of_int binary64 (pos 64))
unfolding shift_f
shift_at_most c r f h k = ceil_at_most (shift_f c r) (go (power_of 10 (lit< tt) c f (T_true h))) 64 (lit≤ tt)
  where
    go : (k : ℕ) × (1 ≤ k) × (k ≤ 10) × (c ≡ pow2 k) → is_nan (shift_f c r) ≡ false
    go p = ap (λ (x : Float). is_nan (add binary64 (div binary64 r x) half)) p.3 ∙ plus_number (div binary64 r (pow2 p.0)) (over_number p.0 r (T_true k))
