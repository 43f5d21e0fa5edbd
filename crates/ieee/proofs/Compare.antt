-- Equality and order of a float with a whole number, by the float's fraction; `ceil_at_most`: a ceiling's bound can be tested on the floats. Assumes nothing.
use Rattle.std.proofs.Common.{◌≡◌, ℕ, zero, suc, ◌+◌, ◌-◌, ◌*◌, ◌/◌, ◌^◌, ◌<◌, ◌≤◌, min, Bool, true, false, cond, ◌&&◌, ◌||◌, eqb, ltb, leb, ℤ, pos, neg_ℤ, sym, refl, ap, ◌∙◌, true≢false, zero-le, le_trans, le_of_eq, mul-le-mul_right, suc-mul, lt_of_mul-lt-mul_right, zero-mul, mul-one, mul_right_comm, arith, le→leb, eqb→eq, leb→le, ltb-false, ltb-true, lt-ltb, eqb-true, le-leb}
use native.Mathlib.Nat.{eq_of_mul-eq-mul_right}
use mathlib.Core.Bool.{beq}
use lib.Signed.{le_z}
use lib.Ieee.{Float, nan, inf, fin, binary64, up, down, odd, units, round, sum, lt, eq, le, level, below, is_nan, of_int}
use lib.Ieee.Fits.{down_pos, round_is, eq→eqb}
use lib.Ieee.Exact.{HasValue}
use lib.Ieee.Back.{round_whole}
use lib.Ieee.Order.{kept, drop}
use borrow.Author.Tests.{eqb-false, lt-leb}
use Rattle.ieee.specs.Whole.{ceil_div, sat, sat_inf, ceil_z}
use Rattle.ieee.proofs.Tools.{same_test, lt_whole}
use Rattle.ieee.proofs.Integers.{ceil_rest}

-- ---- comparisons with a whole number
eqb_scale : (a b k : ℕ) → 0 < k → eqb (a * k) (b * k) ≡ eqb a b
eqb_scale a b k h =
    same_test (eqb (a * k) (b * k)) (eqb a b)
    (λ t. eq→eqb (eq_of_mul-eq-mul_right k h a b (eqb→eq (a * k) (b * k) t)))
    (λ t. eq→eqb (ap (λ (x : ℕ). x * k) (eqb→eq a b t)))

level_scale : (s : Bool) (a : ℕ) (t : Bool) (b k : ℕ) → 0 < k → level s (a * k) t (b * k) ≡ level s a t b
level_scale s a t b k h =
    ap (λ (x : Bool). x && (beq s t || eqb (a * k) 0)) (eqb_scale a b k h)
    ∙ ap (λ (x : Bool). eqb a b && (beq s t || x)) (ap (λ (x : ℕ). eqb (a * k) x) (sym (zero-mul k)) ∙ eqb_scale a 0 k h)

-- y is ±b, a whole number: x = y by x's fraction
pub eq_whole : (s : Bool) (m : ℕ) (e : ℤ) (y : Float) (t : Bool) (b : ℕ) → HasValue y t b 1 → eq (fin s m e) y ≡ level s (m * up e) t (b * down e)
unfolding eq
eq_whole s m e nan t b v = elim v [ ]
eq_whole s m e (inf _) t b v = elim v [ ]
eq_whole s m e (fin u n d) t b v =
    ap (λ (x : ℕ). level s (m * up e * down d) u (x * down e)) (sym (mul-one (n * up d)) ∙ v.1)
    ∙ ap (λ (x : ℕ). level s (m * up e * down d) u x) (mul_right_comm b (down d) (down e))
    ∙ ap (λ (x : Bool). level s (m * up e * down d) x (b * down e * down d)) v.0
    ∙ level_scale s (m * up e) t (b * down e) (down d) (down_pos d)

-- x ≤ y likewise
pub le_whole : (s : Bool) (m : ℕ) (e : ℤ) (y : Float) (t : Bool) (b : ℕ) → HasValue y t b 1
    → le (fin s m e) y ≡ below s (m * up e) t (b * down e) || level s (m * up e) t (b * down e)
unfolding le
le_whole s m e y t b v =
    ap (λ (x : Bool). x || eq (fin s m e) y) (lt_whole s m e y t b v)
    ∙ ap (λ (x : Bool). below s (m * up e) t (b * down e) || x) (eq_whole s m e y t b v)

-- of two that are not negative
pub both_pos : (a b : ℕ) → ltb a b || (eqb a b && true) ≡ leb a b
both_pos a b = go (ltb a b) (eqb a b) refl refl
  where
    lower : a < b → a ≤ b
    lower h = omega arith

    above : b ≤ a → (a ≡ b → ⊥) → b < a
    above h k = omega arith

    go : (x y : Bool) → ltb a b ≡ x → eqb a b ≡ y → x || (y && true) ≡ leb a b
    go true y h k = sym (le-leb a b (lower (ltb-true a b h)))
    go false true h k = sym (le-leb a b (le_of_eq (eqb-true a b k)))
    go false false h k = sym (lt-leb a b (above (ltb-false a b h) (eqb-false a b k)))

-- ---- the ceiling's bound
-- a / c rounded up is at most n just if a is at most n * c
pub quot_iff : (a c n : ℕ) → 0 < c → n ≤ 2 ^ 53 → leb (min (ceil_div a c) (2 ^ 63 - 1)) n ≡ leb a (n * c)
quot_iff a c n C h = same_test (leb (min (ceil_div a c) (2 ^ 63 - 1)) n) (leb a (n * c))
    (λ t. le→leb a (n * c) (le_trans r.0 (mul-le-mul_right c (small (ceil_div a c) (leb→le (min (ceil_div a c) (2 ^ 63 - 1)) n t)))))
    (λ t. le→leb (min (ceil_div a c) (2 ^ 63 - 1)) n (under (ceil_div a c) (lt_of_mul-lt-mul_right c (next (ceil_div a c * c) (leb→le a (n * c) t) r.1))))
  where
    r : (a ≤ ceil_div a c * c) × (ceil_div a c * c < a + c)
    r = ceil_rest a c C

    small : (q : ℕ) → min q (2 ^ 63 - 1) ≤ n → q ≤ n
    small q k = omega arith

    next : (x : ℕ) → a ≤ n * c → x < a + c → x < suc n * c
    next x k l = let s = suc-mul n c in omega arith

    under : (q : ℕ) → q < suc n → min q (2 ^ 63 - 1) ≤ n
    under q k = omega arith

neg_any : (a b : ℕ) → ltb 0 (a + b) || (eqb a b && (false || eqb a 0)) ≡ true
neg_any zero zero = refl
neg_any zero (suc b) = ap (λ (x : Bool). x || (eqb 0 (suc b) && true)) (lt-ltb 0 (0 + suc b) (omega arith))
neg_any (suc a) b = ap (λ (x : Bool). x || (eqb (suc a) b && (false || eqb (suc a) 0))) (lt-ltb 0 (suc a + b) (omega arith))

neg_at_most : (q n : ℕ) → le_z (sat (neg_ℤ (pos q))) (pos n) ≡ true
neg_at_most zero n = le-leb 0 n zero-le
neg_at_most (suc q) n = refl

inf_at_most : (s : Bool) (y : Float) (n : ℕ) → n ≤ 2 ^ 53 → HasValue y false n 1 → le_z (sat_inf s) (pos n) ≡ le (inf s) y
unfolding le lt eq
inf_at_most false nan n k v = elim v [ ]
inf_at_most false (inf _) n k v = elim v [ ]
inf_at_most true nan n k v = elim v [ ]
inf_at_most true (inf _) n k v = elim v [ ]
inf_at_most false (fin t m e) n k v = lt-leb (2 ^ 63 - 1) n (omega arith)
inf_at_most true (fin t m e) n k v = refl

-- the ceiling is at most n just if the float is at most n's float
pub ceil_at_most : (x : Float) → is_nan x ≡ false → (n : ℕ) → n ≤ 2 ^ 53 → le_z (ceil_z x) (pos n) ≡ le x (of_int binary64 (pos n))
unfolding ceil_z is_nan of_int
ceil_at_most nan h n k = absurd (true≢false h)
ceil_at_most (inf s) h n k = inf_at_most s (round binary64 false n 1) n k (round_whole binary64 false n k)
ceil_at_most (fin false m e) h n k =
    quot_iff (m * up e) (down e) n (down_pos e) k ∙ sym (le_whole false m e (round binary64 false n 1) false n (round_whole binary64 false n k) ∙ both_pos (m * up e) (n * down e))
ceil_at_most (fin true m e) h n k =
    neg_at_most (m * up e / down e) n ∙ sym (le_whole true m e (round binary64 false n 1) false n (round_whole binary64 false n k) ∙ neg_any (m * up e) (n * down e))

-- ---- what `round` and a sum of finite values give is a number
pick_number : (b : Bool) (x y : Float) → is_nan x ≡ false → is_nan y ≡ false → is_nan (cond b x y) ≡ false
pick_number true x y h k = h
pick_number false x y h k = k

odd_number : (s : Bool) (q k : ℕ) → is_nan (odd 54 s q k 1074) ≡ false
unfolding odd is_nan
odd_number s zero k = refl
odd_number s (suc q) k = refl

pub round_number : (s : Bool) (num den : ℕ) → is_nan (round binary64 s num den) ≡ false
round_number s num den = ap is_nan (round_is binary64 s num den) ∙ go (kept 53 (num * 2 ^ 1074) den) (drop 53 (num * 2 ^ 1074) den)
  where
    go : (q k : ℕ) → is_nan (units binary64 s q k) ≡ false
    go q k = unfold units in pick_number (ltb (q * 2 ^ k) (2 ^ 2098)) (odd 54 s q k 1074) (inf s) (odd_number s q k) (unfold is_nan in refl)

pub sum_number : (s : Bool) (a : ℕ) (t : Bool) (b c : ℕ) → is_nan (sum binary64 s a t b c) ≡ false
unfolding sum
sum_number s a t b c =
    pick_number (beq s t) (round binary64 s (a + b) c) (cond (ltb a b) (round binary64 t (b - a) c) (round binary64 (s && ltb b a) (a - b) c))
    (round_number s (a + b) c)
    (pick_number (ltb a b) (round binary64 t (b - a) c) (round binary64 (s && ltb b a) (a - b) c) (round_number t (b - a) c) (round_number (s && ltb b a) (a - b) c))
