-- Floats that are exactly an integer over a power of two. `IsZ x z j` says that x is z / 2 ^ j; its floor and its ceiling are then the integers' divisions. Assumes nothing.
use Rattle.std.proofs.Common.{◌≡◌, ℕ, zero, suc, ◌+◌, ◌-◌, ◌*◌, ◌/◌, ◌^◌, ◌<◌, ◌≤◌, min, Bool, true, false, not, T, ℤ, pos, negsuc, ◌+ℤ◌, neg_ℤ, sym, refl, ap, ◌∙◌, subst, le_trans, le_of_eq, le_of_lt, suc-mul, lt_of_mul-lt-mul_right, mul-le-mul_left, mul-one, div-mul-le_self, le_of_mul-le-mul_right, arith, pow_pos}
use native.Mathlib.Nat.{div-eq_of_lt}
use lib.IntN.{neg_ℤ-neg_ℤ}
use lib.Signed.{shr_z, mag}
use lib.Ieee.{Float, nan, inf, fin, binary64, up, down, neg, add, fits, of_int}
use lib.Ieee.Fits.{down_pos, of_int-fits}
use lib.Ieee.Exact.{HasValue}
use lib.Ieee.Back.{whole_unique}
use Rattle.ieee.specs.Whole.{ceil_div, down_z, up_z, sat, floor_z, ceil_z}
use Rattle.ieee.specs.Yard.{div_z, up_div_z}
use Rattle.ieee.proofs.Integers.{ups, downs, neg_ups, neg_downs, add_parts, int_of_parts, ceil_rest}
use Rattle.ieee.proofs.Dyadic.{Off, Is, off_lt, is_nat, is_neg, is_shift, is_add, is_minus}
use Rattle.ieee.proofs.DyadicFloor.{ceil_zero, ceil_suc, floor_int}

abbrev pub IsZ : Float → ℤ → ℕ → Type 0
IsZ x z j = Is x (ups z) (downs z) j

-- an integer's float is that integer
pub is_int : (z : ℤ) → mag z < 2 ^ 53 → IsZ (of_int binary64 z) z 0
is_int (pos n) h = is_nat n (le_of_lt h)
is_int (negsuc n) h = is_neg n h

-- (a - b) / 2 ^ j is z / 2 ^ j if z is a - b
pub as_int : (x : Float) (z : ℤ) (a b j : ℕ) → ups z + b ≡ a + downs z → Is x a b j → IsZ x z j
as_int x z a b j e h = is_shift x a b (ups z) (downs z) j (sym e) h

-- ---- negation and sum are those of the integers
pub neg_int : (x : Float) (z : ℤ) (j : ℕ) → IsZ x z j → IsZ (neg x) (neg_ℤ z) j
neg_int x z j v = let u = neg_ups z in let d = neg_downs z in as_int (neg x) (neg_ℤ z) (downs z) (ups z) j (omega arith) (is_minus x (ups z) (downs z) j v)

-- z is small
abbrev pub Within : ℕ → ℤ → Type 0
Within b z = (ups z < b) × (downs z < b)

pub add_int : (x y : Float) (z w : ℤ) (j : ℕ) → j ≤ 1074 → Within (2 ^ 52) z → Within (2 ^ 52) w → IsZ x z j → IsZ y w j → IsZ (add binary64 x y) (z +ℤ w) j
add_int x y z w j J p q v u =
    as_int (add binary64 x y) (z +ℤ w) (ups z + ups w) (downs z + downs w) j (add_parts z w) (is_add x y (ups z) (downs z) (ups w) (downs w) j J p.0 p.1 q.0 q.1 v u)

-- ---- a value that fits is the float of the integer that it is, unless that is zero, which has two floats
pub float_of_int : (x : Float) (z : ℤ) → T (fits binary64 x) → mag z < 2 ^ 53 → (z ≡ pos 0 → ⊥) → IsZ x z 0 → x ≡ of_int binary64 z
float_of_int x z f h nz v =
    let w = is_int z h in
    let e = signed z v.sign v.size w.sign w.size nz v.off w.off in
    whole_unique binary64 x (of_int binary64 z) w.sign w.size f (of_int-fits binary64 z)
    (subst (λ (s : Bool). HasValue x s w.size 1) e.0 (subst (λ (n : ℕ). HasValue x v.sign n 1) e.1 v.value))
    w.value
  where
    none : (n : ℕ) → (pos n ≡ pos 0 → ⊥) → n ≡ 0 → ⊥
    none n nz e = nz (ap pos e)

    signed : (z : ℤ) (s : Bool) (a : ℕ) (t : Bool) (b : ℕ) → (z ≡ pos 0 → ⊥) → Off s a (ups z) (downs z) → Off t b (ups z) (downs z) → (s ≡ t) × (a ≡ b)
    signed (pos n) false a false b nz o u = (refl, omega arith)
    signed (pos n) false a true b nz o u = absurd (none n nz (omega arith))
    signed (pos n) true a t b nz o u = absurd (none n nz (omega arith))
    signed (negsuc n) true a true b nz o u = (refl, omega arith)
    signed (negsuc n) true a false b nz o u = absurd (let e : ⊥ = omega arith in e)
    signed (negsuc n) false a t b nz o u = absurd (let e : ⊥ = omega arith in e)

-- ---- floor: the flooring division
pub floor_whole : (x : Float) (z : ℤ) (j : ℕ) → Within (2 ^ 62) z → IsZ x z j → floor_z x ≡ div_z z (2 ^ j)
floor_whole x z j p v = floor_int x (ups z) (downs z) j v (omega arith) (omega arith) ∙ ap (λ (y : ℤ). shr_z y (2 ^ j)) (int_of_parts z) ∙ same z (2 ^ j)
  where
    same : (z : ℤ) (m : ℕ) → shr_z z m ≡ div_z z m
    same (pos n) m = refl
    same (negsuc n) m = refl

-- ---- ceiling: the floor of the negated value, negated
turn : (q : ℕ) → q < 2 ^ 63 → sat (pos q) ≡ neg_ℤ (sat (neg_ℤ (pos q)))
turn zero h = refl
turn (suc q) h = ap pos (go q h)
  where
    go : (q : ℕ) → suc q < 2 ^ 63 → min (suc q) (2 ^ 63 - 1) ≡ suc (min q (2 ^ 63 - 1))
    go q h = omega arith

turned : (s : Bool) (a c : ℕ) → a / c < 2 ^ 63 → ceil_div a c < 2 ^ 63 → sat (up_z s a c) ≡ neg_ℤ (sat (down_z (not s) a c))
turned false a c h k = turn (ceil_div a c) k
turned true a c h k = sym (neg_ℤ-neg_ℤ (sat (neg_ℤ (pos (a / c))))) ∙ ap neg_ℤ (sym (turn (a / c) h))

-- a / c is x / 2 ^ j: so neither it nor its ceiling is above x
quotients : (a c x j : ℕ) → 0 < c → a * 2 ^ j ≡ x * c → x < 2 ^ 62 → (a / c < 2 ^ 63) × (ceil_div a c < 2 ^ 63)
quotients a c x j C e h =
    let l : a ≤ x * c = le_trans (le_trans (le_of_eq (sym (mul-one a))) (mul-le-mul_left a (pow_pos j))) (le_of_eq e) in
    let p : a / c ≤ x = le_of_mul-le-mul_right (le_trans (div-mul-le_self a c) l) C in
    let r = (ceil_rest a c C).1 in
    let s = suc-mul x c in
    let b : ceil_div a c * c < suc x * c = omega arith in
    let q : ceil_div a c < suc x = lt_of_mul-lt-mul_right c b in
    (omega arith, go (ceil_div a c) q)
  where
    go : (q : ℕ) → q < suc x → q < 2 ^ 63
    go q k = omega arith

ceil_neg : (x : Float) (a b j : ℕ) → a < 2 ^ 62 → b < 2 ^ 62 → Is x a b j → ceil_z x ≡ neg_ℤ (floor_z (neg x))
unfolding ceil_z floor_z neg
ceil_neg nan a b j p q v = absurd v.value
ceil_neg (inf s) a b j p q v = absurd v.value
ceil_neg (fin s m e) a b j p q v =
    let h = quotients (m * up e) (down e) v.size j (down_pos e) v.value.1 (off_lt v.sign v.size a b (2 ^ 62) v.off p q) in
    turned s (m * up e) (down e) h.0 h.1

pub ceil_whole : (x : Float) (z : ℤ) (j : ℕ) → Within (2 ^ 62) z → IsZ x z j → ceil_z x ≡ up_div_z z (2 ^ j)
ceil_whole x z j p v =
    let u = neg_ups z in
    let d = neg_downs z in
    ceil_neg x (ups z) (downs z) j p.0 p.1 v ∙ ap neg_ℤ (floor_whole (neg x) (neg_ℤ z) j (omega arith, omega arith) (neg_int x z j v))

-- of a number that is not negative it is the naturals' division, rounded up
pub ceil_nat : (x : Float) (a j : ℕ) → Is x a 0 j → a < 2 ^ 62 → ceil_z x ≡ pos (ceil_div a (2 ^ j))
ceil_nat x a j v h = ceil_whole x (pos a) j (h, pow_pos 62) v ∙ go a
  where
    go : (a : ℕ) → up_div_z (pos a) (2 ^ j) ≡ pos (ceil_div a (2 ^ j))
    go zero = ap (λ (n : ℕ). neg_ℤ (pos n)) (div-eq_of_lt (pow_pos j)) ∙ ap pos (sym (ceil_zero (2 ^ j) (pow_pos j)))
    go (suc a) = ap pos (sym (ceil_suc a (2 ^ j) (pow_pos j)))
