-- Integers by two natural numbers: z is `ups z - downs z`. So a sum, a product, a flooring quotient or a biased column becomes an equation of natural numbers. Assumes nothing.
use Rattle.std.proofs.Common.{◌≡◌, ℕ, zero, suc, ◌+◌, ◌-◌, ◌*◌, ◌/◌, ◌%◌, ◌^◌, ◌<◌, ◌≤◌, min, Bool, true, false, cond, eqb, ltb, ℤ, pos, negsuc, ◌+ℤ◌, ◌-ℤ◌, ◌*ℤ◌, neg_ℤ, refl, ap, ◌∙◌, mod-lt, suc-mul, add-mul, div-add-mod', arith, ltb-false, ltb-true, eqb-true}
use lib.IntN.{neg_ℤ-neg_ℤ, sub_ℕ}
use lib.Signed.{mag}
use lib.Arith.{digits_div}
use borrow.Author.Tests.{eqb-false}
use Rattle.ieee.specs.Whole.{ceil_div, biased, unbias}
use Rattle.ieee.specs.Yard.{div_z, up_div_z}

abbrev pub ups : ℤ → ℕ
ups (pos n) = n
ups (negsuc n) = 0

abbrev pub downs : ℤ → ℕ
downs (pos n) = 0
downs (negsuc n) = suc n

-- ---- the two numbers of a difference, a negation, a sum and a product
pub sub_parts : (a b : ℕ) → ups (sub_ℕ a b) + b ≡ a + downs (sub_ℕ a b)
sub_parts a b = go (ltb a b) refl
  where
    low : a < b → 0 + b ≡ a + suc (b - suc a)
    low h = omega arith

    high : b ≤ a → a - b + b ≡ a + 0
    high h = omega arith

    go : (t : Bool) → ltb a b ≡ t → ups (cond t (negsuc (b - suc a)) (pos (a - b))) + b ≡ a + downs (cond t (negsuc (b - suc a)) (pos (a - b)))
    go true e = low (ltb-true a b e)
    go false e = high (ltb-false a b e)

pub neg_ups : (z : ℤ) → ups (neg_ℤ z) ≡ downs z
neg_ups (pos zero) = refl
neg_ups (pos (suc n)) = refl
neg_ups (negsuc n) = refl

pub neg_downs : (z : ℤ) → downs (neg_ℤ z) ≡ ups z
neg_downs (pos zero) = refl
neg_downs (pos (suc n)) = refl
neg_downs (negsuc n) = refl

pub add_parts : (z w : ℤ) → ups (z +ℤ w) + (downs z + downs w) ≡ ups z + ups w + downs (z +ℤ w)
add_parts (pos a) (pos b) = omega arith
add_parts (pos a) (negsuc b) = let h = sub_parts a (suc b) in omega arith
add_parts (negsuc a) (pos b) = let h = sub_parts b (suc a) in omega arith
add_parts (negsuc a) (negsuc b) = omega arith

pub less_parts : (z w : ℤ) → ups (z -ℤ w) + (downs z + ups w) ≡ ups z + downs w + downs (z -ℤ w)
less_parts z w = let p = add_parts z (neg_ℤ w) in let u = neg_ups w in let d = neg_downs w in omega arith

pub mul_parts : (c : ℕ) (z : ℤ) → ups (pos c *ℤ z) + c * downs z ≡ c * ups z + downs (pos c *ℤ z)
mul_parts c (pos n) = omega arith
mul_parts c (negsuc n) = let u = neg_ups (pos (c * suc n)) in let d = neg_downs (pos (c * suc n)) in omega arith

-- ---- equal differences are one integer; and one of its two numbers is zero, so z = a - b has none above a or b
pub same_int : (z w : ℤ) → ups z + downs w ≡ ups w + downs z → z ≡ w
same_int (pos a) (pos b) h = let e : a ≡ b = omega arith in ap pos e
same_int (pos a) (negsuc b) h = absurd (let e : ⊥ = omega arith in e)
same_int (negsuc a) (pos b) h = absurd (let e : ⊥ = omega arith in e)
same_int (negsuc a) (negsuc b) h = let e : a ≡ b = omega arith in ap negsuc e

pub parts_le : (z : ℤ) (a b : ℕ) → ups z + b ≡ a + downs z → (ups z ≤ a) × (downs z ≤ b)
parts_le (pos n) a b h = (omega arith, omega arith)
parts_le (negsuc n) a b h = (omega arith, omega arith)

pub int_of_parts : (z : ℤ) → sub_ℕ (ups z) (downs z) ≡ z
int_of_parts z = same_int (sub_ℕ (ups z) (downs z)) z (sub_parts (ups z) (downs z))

pub parts_mag : (z : ℤ) (b : ℕ) → mag z ≤ b → (ups z ≤ b) × (downs z ≤ suc b)
parts_mag (pos n) b h = (omega arith, omega arith)
parts_mag (negsuc n) b h = (omega arith, omega arith)

pub add_le : (z w : ℤ) → (ups (z +ℤ w) ≤ ups z + ups w) × (downs (z +ℤ w) ≤ downs z + downs w)
add_le z w = parts_le (z +ℤ w) (ups z + ups w) (downs z + downs w) (add_parts z w)

pub mag_parts : (z : ℤ) → mag z ≤ ups z + downs z
mag_parts (pos n) = omega arith
mag_parts (negsuc n) = omega arith

-- ---- z = w * d + r with r below d: w is the flooring quotient
pub div_unique : (z w : ℤ) (d r : ℕ) → r < d → ups z + downs w * d ≡ downs z + ups w * d + r → div_z z d ≡ w
div_unique (pos n) (pos m) d r h e = let f : n ≡ m * d + r = omega arith in ap (λ (x : ℕ). pos (x / d)) f ∙ ap pos (digits_div m h)
div_unique (pos n) (negsuc m) d r h e = absurd (let f = suc-mul m d in let g : ⊥ = omega arith in g)
div_unique (negsuc n) (pos m) d r h e = absurd (let g : ⊥ = omega arith in g)
div_unique (negsuc n) (negsuc m) d r h e =
    let g = suc-mul m d in
    let f : n ≡ m * d + (d - suc r) = omega arith in
    let l : d - suc r < d = omega arith in
    ap (λ (x : ℕ). negsuc (x / d)) f ∙ ap negsuc (digits_div m l)

-- z = w * d - r: w is the quotient rounded up
pub up_unique : (z w : ℤ) (d r : ℕ) → r < d → downs z + ups w * d ≡ ups z + downs w * d + r → up_div_z z d ≡ w
up_unique z w d r h e = ap neg_ℤ (div_unique (neg_ℤ z) (neg_ℤ w) d r h (rw (neg_ups z, neg_downs z, neg_ups w, neg_downs w) e)) ∙ neg_ℤ-neg_ℤ w

-- a / d rounded up, times d, is a and less than d more
pub ceil_rest : (a d : ℕ) → 0 < d → (a ≤ ceil_div a d * d) × (ceil_div a d * d < a + d)
ceil_rest a d D = go (eqb (a % d) 0) (eqb-true (a % d) 0) (eqb-false (a % d) 0) (div-add-mod' a d) (mod-lt a D)
  where
    go : (t : Bool) → (t ≡ true → a % d ≡ 0) → (t ≡ false → a % d ≡ 0 → ⊥) → a / d * d + a % d ≡ a → a % d < d
        → (a ≤ (a / d + cond t 0 1) * d) × ((a / d + cond t 0 1) * d < a + d)
    go true f g e h = let z = f refl in let w = add-mul (a / d) 0 d in (omega arith, omega arith)
    go false f g e h = let z = g refl in let w = add-mul (a / d) 1 d in (omega arith, omega arith)

-- ---- biased and unbiased columns
-- z + 2 ^ 31 = v, with v in the range
pub biased_at : (z : ℤ) (v : ℕ) → v < 2 ^ 32 → ups z + 2 ^ 31 ≡ downs z + v → biased z ≡ v
biased_at (pos n) v h e = go n v h e
  where
    go : (n v : ℕ) → v < 2 ^ 32 → n + 2 ^ 31 ≡ 0 + v → min (n + 2 ^ 31) (2 ^ 32 - 1) ≡ v
    go n v h e = omega arith
biased_at (negsuc n) v h e = go n v e
  where
    go : (n v : ℕ) → 0 + 2 ^ 31 ≡ suc n + v → 2 ^ 31 - suc n ≡ v
    go n v e = omega arith

-- `unbias u` is u - 2 ^ 31
pub unbias_parts : (u : ℕ) → ups (unbias u) + 2 ^ 31 ≡ downs (unbias u) + u
unbias_parts u = go (ltb u (2 ^ 31)) refl
  where
    low : u < 2 ^ 31 → 0 + 2 ^ 31 ≡ suc (2 ^ 31 - suc u) + u
    low h = omega arith

    high : 2 ^ 31 ≤ u → u - 2 ^ 31 + 2 ^ 31 ≡ 0 + u
    high h = omega arith

    go : (t : Bool) → ltb u (2 ^ 31) ≡ t
        → ups (cond t (negsuc (2 ^ 31 - suc u)) (pos (u - 2 ^ 31))) + 2 ^ 31 ≡ downs (cond t (negsuc (2 ^ 31 - suc u)) (pos (u - 2 ^ 31))) + u
    go true e = low (ltb-true u (2 ^ 31) e)
    go false e = high (ltb-false u (2 ^ 31) e)

unbias_le : (u : ℕ) → (ups (unbias u) ≤ u - 2 ^ 31) × (downs (unbias u) ≤ 2 ^ 31 - u)
unbias_le u = let p = unbias_parts u in parts_le (unbias u) (u - 2 ^ 31) (2 ^ 31 - u) (omega arith)

-- u is within b of 2 ^ 31
pub unbias_mag : (u b : ℕ) → 2 ^ 31 ≤ u + b → u ≤ 2 ^ 31 + b → mag (unbias u) ≤ b
unbias_mag u b h k = let l = unbias_le u in let m = mag_parts (unbias u) in omega arith
