-- Floor and ceiling by comparisons: a whole number is at most a float just if it is at most the float's floor, and at least it just if it is at least the ceiling. Assumes nothing.
use Rattle.std.proofs.Common.{◌≡◌, ℕ, suc, ◌+◌, ◌-◌, ◌*◌, ◌/◌, ◌^◌, ◌<◌, ◌≤◌, min, Bool, true, false, ltb, leb, ℤ, pos, negsuc, sym, refl, ap, ◌∙◌, ⊎_elim, true≢false, mul-le-mul_right, mod-lt, lt_of_mul-lt-mul_right, div-add-mod', mul-one, le_of_mul-le-mul_right, arith, le-ltb, lt-ltb, le-leb}
use lib.Ieee.{Float, nan, inf, fin, up, down, lt, eq, le, is_nan}
use lib.Ieee.Fits.{down_pos}
use borrow.Author.Tests.{lt-leb}
use Rattle.ieee.specs.Whole.{ceil_div, down_z, up_z, sat, floor_z, ceil_z}
use Rattle.ieee.proofs.Tools.{lt_or_ge}
use Rattle.ieee.proofs.Integers.{ups, downs, neg_ups, neg_downs, ceil_rest}
use Rattle.ieee.proofs.Dyadic.{Off, Is}
use Rattle.ieee.proofs.Monotone.{gain, loss, gain_scale, loss_scale, le_fin, le_lt, not_le_lt}

-- two tests of numbers that agree
leb_same : (a b c d : ℕ) → (a ≤ b → c ≤ d) → (b < a → d < c) → leb a b ≡ leb c d
leb_same a b c d f g = ⊎_elim (λ h. lt-leb a b h ∙ sym (lt-leb c d (g h))) (λ h. le-leb a b h ∙ sym (le-leb c d (f h))) (lt_or_ge b a)

-- ---- a float x = ±a / c against a whole number y = i - j
off_parts : (s : Bool) (x i j : ℕ) → Off s x i j → gain s x + j ≡ i + loss s x
off_parts false x i j o = omega arith
off_parts true x i j o = omega arith

-- a test keeps its outcome where both sides are multiplied by d and moved alike
same_order : (X Y x y p q d : ℕ) → 0 < d → X + p * d ≡ (x + q) * d → Y + p * d ≡ (y + q) * d → leb X Y ≡ leb x y
same_order X Y x y p q d D h k = leb_same X Y x y
    (λ l. let m : x * d ≤ y * d = omega arith in le_of_mul-le-mul_right m D)
    (λ l. let m : y * d < x * d = omega arith in lt_of_mul-lt-mul_right d m)

-- (G - L) / c against g - l, which is i - j, both over d, and the other way round
crossed : (G L g l i j c d : ℕ) → 0 < d → g + j ≡ i + l → leb (G * d + l * d * c) (g * d * c + L * d) ≡ leb (j * c + G) (L + i * c)
crossed G L g l i j c d D e =
    let f = ap (λ (z : ℕ). z * (c * d)) e in
    same_order (G * d + l * d * c) (g * d * c + L * d) (j * c + G) (L + i * c) (j * c) (l * c) d D (omega arith) (omega arith)

crossed_back : (G L g l i j c d : ℕ) → 0 < d → g + j ≡ i + l → leb (g * d * c + L * d) (G * d + l * d * c) ≡ leb (i * c + L) (G + j * c)
crossed_back G L g l i j c d D e =
    let f = ap (λ (z : ℕ). z * (c * d)) e in
    same_order (g * d * c + L * d) (G * d + l * d * c) (i * c + L) (G + j * c) (j * c) (l * c) d D (omega arith) (omega arith)

module _ (s : Bool) (m : ℕ) (e : ℤ) where
  abbrev a : ℕ
  a = m * up e

  abbrev c : ℕ
  c = down e

  float_le : (y : Float) (i j : ℕ) → Is y i j 0 → le (fin s m e) y ≡ leb (j * c + gain s a) (loss s a + i * c)
  float_le nan i j v = absurd v.value
  float_le (inf t) i j v = absurd v.value
  float_le (fin t n d) i j v =
      let b : n * up d ≡ v.size * down d = sym (mul-one (n * up d)) ∙ v.value.1 in
      le_fin s m e t n d ∙ rw (v.value.0, b, gain_scale v.sign v.size (down d), loss_scale v.sign v.size (down d))
      (crossed (gain s a) (loss s a) (gain v.sign v.size) (loss v.sign v.size) i j c (down d) (down_pos d) (off_parts v.sign v.size i j v.off))

  le_float : (y : Float) (i j : ℕ) → Is y i j 0 → le y (fin s m e) ≡ leb (i * c + loss s a) (gain s a + j * c)
  le_float nan i j v = absurd v.value
  le_float (inf t) i j v = absurd v.value
  le_float (fin t n d) i j v =
      let b : n * up d ≡ v.size * down d = sym (mul-one (n * up d)) ∙ v.value.1 in
      le_fin t n d s m e ∙ rw (v.value.0, b, gain_scale v.sign v.size (down d), loss_scale v.sign v.size (down d))
      (crossed_back (gain s a) (loss s a) (gain v.sign v.size) (loss v.sign v.size) i j c (down d) (down_pos d) (off_parts v.sign v.size i j v.off))

-- ---- quotients
-- p - q is (G - L) / c, rounded down
abbrev Floored : ℕ → ℕ → ℕ → ℕ → ℕ → Type 0
Floored p q G L c = (p * c + L ≤ G + q * c) × (G + q * c < p * c + c + L)

-- then i - j is at most p - q just if it is at most (G - L) / c
floored_test : (p q i j G L c : ℕ) → Floored p q G L c → leb (i + q) (p + j) ≡ leb (i * c + L) (G + j * c)
floored_test p q i j G L c f = leb_same (i + q) (p + j) (i * c + L) (G + j * c)
    (λ h. let k = mul-le-mul_right c h in omega arith)
    (λ h. let g : suc (p + j) ≤ i + q = h in let k = mul-le-mul_right c g in omega arith)

quotient : (a c : ℕ) → 0 < c → Floored (a / c) 0 a 0 c
quotient a c C = let e = div-add-mod' a c in let l = mod-lt a C in (omega arith, omega arith)

rounded_up : (a c : ℕ) → 0 < c → Floored 0 (ceil_div a c) 0 a c
rounded_up a c C = let r = ceil_rest a c C in go (ceil_div a c * c) r.0 r.1
  where
    go : (x : ℕ) → a ≤ x → x < a + c → (0 * c + a ≤ 0 + x) × (0 + x < 0 * c + c + a)
    go x h k = (omega arith, omega arith)

floored_down : (s : Bool) (a c : ℕ) → 0 < c → Floored (ups (down_z s a c)) (downs (down_z s a c)) (gain s a) (loss s a) c
floored_down false a c C = quotient a c C
floored_down true a c C = rw (neg_ups (pos (ceil_div a c)), neg_downs (pos (ceil_div a c))) (rounded_up a c C)

floored_up : (s : Bool) (a c : ℕ) → 0 < c → Floored (downs (up_z s a c)) (ups (up_z s a c)) (loss s a) (gain s a) c
floored_up false a c C = rounded_up a c C
floored_up true a c C = rw (neg_ups (pos (a / c)), neg_downs (pos (a / c))) (quotient a c C)

-- ---- bringing to the range of an i64 does not touch a comparison with a small number
sat_down : (z : ℤ) (i j : ℕ) → i < 2 ^ 62 → j < 2 ^ 62 → leb (i + downs (sat z)) (ups (sat z) + j) ≡ leb (i + downs z) (ups z + j)
sat_down (pos n) i j p q = leb_same (i + 0) (min n (2 ^ 63 - 1) + j) (i + 0) (n + j) (λ h. omega arith) (λ h. omega arith)
sat_down (negsuc n) i j p q = leb_same (i + suc (min n (2 ^ 63 - 1))) (0 + j) (i + suc n) (0 + j) (λ h. omega arith) (λ h. omega arith)

sat_up : (z : ℤ) (i j : ℕ) → i < 2 ^ 62 → j < 2 ^ 62 → leb (i + ups (sat z)) (downs (sat z) + j) ≡ leb (i + ups z) (downs z + j)
sat_up (pos n) i j p q = leb_same (i + min n (2 ^ 63 - 1)) (0 + j) (i + n) (0 + j) (λ h. omega arith) (λ h. omega arith)
sat_up (negsuc n) i j p q = leb_same (i + 0) (suc (min n (2 ^ 63 - 1)) + j) (i + 0) (suc n + j) (λ h. omega arith) (λ h. omega arith)

-- ---- the two laws
-- y = i - j is at most x just if it is at most x's floor
pub le_floor : (x y : Float) (i j : ℕ) → is_nan x ≡ false → i < 2 ^ 62 → j < 2 ^ 62 → Is y i j 0 → le y x ≡ leb (i + downs (floor_z x)) (ups (floor_z x) + j)
unfolding floor_z
le_floor nan y i j h p q v = absurd (true≢false (unfold is_nan in h))
le_floor (inf s) nan i j h p q v = absurd v.value
le_floor (inf s) (inf t) i j h p q v = absurd v.value
le_floor (inf true) (fin t n d) i j h p q v = unfold le lt eq in sym (lt-leb (i + suc (2 ^ 63 - 1)) (0 + j) (omega arith))
le_floor (inf false) (fin t n d) i j h p q v = unfold le lt eq in sym (le-leb (i + 0) (2 ^ 63 - 1 + j) (omega arith))
le_floor (fin s m e) y i j h p q v =
    let z = down_z s (m * up e) (down e) in
    le_float s m e y i j v
    ∙ sym (floored_test (ups z) (downs z) i j (gain s (m * up e)) (loss s (m * up e)) (down e) (floored_down s (m * up e) (down e) (down_pos e)))
    ∙ sym (sat_down z i j p q)

-- y = i - j is at least x just if it is at least x's ceiling
pub ceil_le : (x y : Float) (i j : ℕ) → is_nan x ≡ false → i < 2 ^ 62 → j < 2 ^ 62 → Is y i j 0 → le x y ≡ leb (j + ups (ceil_z x)) (downs (ceil_z x) + i)
unfolding ceil_z
ceil_le nan y i j h p q v = absurd (true≢false (unfold is_nan in h))
ceil_le (inf s) nan i j h p q v = absurd v.value
ceil_le (inf s) (inf t) i j h p q v = absurd v.value
ceil_le (inf true) (fin t n d) i j h p q v = unfold le lt eq in sym (le-leb (j + 0) (suc (2 ^ 63 - 1) + i) (omega arith))
ceil_le (inf false) (fin t n d) i j h p q v = unfold le lt eq in sym (lt-leb (j + (2 ^ 63 - 1)) (0 + i) (omega arith))
ceil_le (fin s m e) y i j h p q v =
    let z = up_z s (m * up e) (down e) in
    float_le s m e y i j v
    ∙ sym (floored_test (downs z) (ups z) j i (loss s (m * up e)) (gain s (m * up e)) (down e) (floored_up s (m * up e) (down e) (down_pos e)))
    ∙ sym (sat_up z j i q p)

-- ---- the same by `<`
is_number : (y : Float) (i j k : ℕ) → Is y i j k → is_nan y ≡ false
unfolding is_nan
is_number nan i j k v = absurd v.value
is_number (inf t) i j k v = absurd v.value
is_number (fin t n d) i j k v = refl

lt_by : (x y : Float) (a b : ℕ) → is_nan x ≡ false → is_nan y ≡ false → le y x ≡ leb b a → lt x y ≡ ltb a b
lt_by x y a b p q e =
    ⊎_elim
    (λ h. not_le_lt y x q p (e ∙ lt-leb b a h) ∙ sym (lt-ltb a b h))
    (λ h. le_lt y x (e ∙ le-leb b a h) ∙ sym (le-ltb a b h))
    (lt_or_ge a b)

pub floor_lt : (x y : Float) (i j : ℕ) → is_nan x ≡ false → i < 2 ^ 62 → j < 2 ^ 62 → Is y i j 0 → lt x y ≡ ltb (ups (floor_z x) + j) (i + downs (floor_z x))
floor_lt x y i j h p q v = lt_by x y (ups (floor_z x) + j) (i + downs (floor_z x)) h (is_number y i j 0 v) (le_floor x y i j h p q v)

pub lt_ceil : (x y : Float) (i j : ℕ) → is_nan x ≡ false → i < 2 ^ 62 → j < 2 ^ 62 → Is y i j 0 → lt y x ≡ ltb (downs (ceil_z x) + i) (j + ups (ceil_z x))
lt_ceil x y i j h p q v = lt_by y x (downs (ceil_z x) + i) (j + ups (ceil_z x)) (is_number y i j 0 v) h (ceil_le x y i j h p q v)
