-- The columns that `column_of` and `column_up` find by adding the shifter are those of floor and ceiling, and so are those that `column_beyond` gives. Assumes nothing.
use Rattle.std.proofs.Common.{◌≡◌, ℕ, ◌+◌, ◌-◌, ◌^◌, ◌<◌, ◌≤◌, Bool, true, false, ltb, ◌⊎◌, ℤ, pos, negsuc, sym, refl, ◌∙◌, subst, ⊎_elim, arith, ltb-true, le-ltb, lt-ltb, le-leb, leb-true}
use lib.Ieee.{Float, nan, fin, binary64, neg, add, sub, lt, le, is_nan, of_bits, to_bits}
use mir.Val.{bool_byte}
use Rattle.ieee.specs.Constants.{nought}
use Rattle.ieee.specs.Whole.{biased, floor_z, ceil_z}
use Rattle.ieee.specs.WholeSteps.{beyond}
use Rattle.ieee.proofs.Tools.{lt_or_ge}
use Rattle.ieee.proofs.Integers.{ups, downs, biased_at}
use Rattle.ieee.proofs.Patterns.{le_some_right, is_nan_is, lt_le}
use Rattle.ieee.proofs.Dyadic.{Is, is_shift}
use Rattle.ieee.proofs.Floor.{toward}
use Rattle.ieee.proofs.Monotone.{le_lt, not_le_lt, le_lt_trans, lt_le_trans}
use Rattle.ieee.proofs.MonotoneSum.{number_add}
use Rattle.ieee.proofs.WholeOrder.{le_floor, ceil_le, floor_lt, lt_ceil}
use Rattle.ieee.proofs.Shifter.{shifter, shifter_finite, pattern, point, point_is, between, taken_off}

-- ---- the range: from -2 ^ 31 to 2 ^ 31 - 1
abbrev pub lowest : Float
lowest = neg (of_bits binary64 4746794007248502784)

abbrev pub highest : Float
highest = of_bits binary64 4746794007244308480

lowest_is : Is lowest 0 (2 ^ 31) 0
unfolding neg of_bits
lowest_is = record { sign = true; size = 2 ^ 31; value = (refl, refl); off = refl }

highest_is : Is highest (2 ^ 31 - 1) 0 0
unfolding of_bits
highest_is = record { sign = false; size = 2 ^ 31 - 1; value = (refl, refl); off = refl }

-- the next whole numbers beyond them
abbrev before : Float
before = fin true 2147483649 (pos 0)

abbrev after : Float
after = fin false 1 (pos 31)

before_is : Is before 0 (2 ^ 31 + 1) 0
before_is = record { sign = true; size = 2 ^ 31 + 1; value = (refl, refl); off = refl }

after_is : Is after (2 ^ 31) 0 0
after_is = record { sign = false; size = 2 ^ 31; value = (refl, refl); off = refl }

before_lt : lt before lowest ≡ true
unfolding neg of_bits lt
before_lt = refl

lt_after : lt highest after ≡ true
unfolding of_bits lt
lt_after = refl

-- ---- the code's last test, as a number: n - 2 ^ 32 is U - D or its neighbour, above it and below it
floor_byte : (n t U D : ℕ) → t + D ≡ U + 2 ^ 32 → t ≤ n → n ≤ t + 1 → n ≡ bool_byte (ltb (U + 2 ^ 32) (n + D)) + t
floor_byte n t U D e h k =
    ⊎_elim
    (λ l. rw (lt-ltb (U + 2 ^ 32) (n + D) (omega arith)) (omega arith))
    (λ l. rw (le-ltb (U + 2 ^ 32) (n + D) (omega arith)) (omega arith))
    (lt_or_ge t n)

ceil_byte : (n t U D : ℕ) → t + D ≡ U + 2 ^ 32 → t ≤ n + 1 → n ≤ t → n + bool_byte (ltb (D + n) (2 ^ 32 + U)) ≡ t
ceil_byte n t U D e h k =
    ⊎_elim
    (λ l. rw (lt-ltb (D + n) (2 ^ 32 + U) (omega arith)) (omega arith))
    (λ l. rw (le-ltb (D + n) (2 ^ 32 + U) (omega arith)) (omega arith))
    (lt_or_ge n t)

module _ (x : Float) (low : le lowest x ≡ true) (high : le x highest ≡ true) where
  -- the sum that the code takes, its pattern, and what is left when the shifter is taken off
  abbrev rounded : Float
  rounded = add binary64 x shifter

  abbrev bits : ℕ
  bits = to_bits binary64 rounded

  abbrev back : Float
  back = sub binary64 rounded shifter

  some : is_nan x ≡ false
  some = le_some_right lowest x low

  pub rounded_some : is_nan rounded ≡ false
  rounded_some = number_add x shifter some shifter_finite

  pub bits_least : pattern (2 ^ 31) ≤ bits
  bits_least =
      (between x lowest highest (2 ^ 31) (2 ^ 32 + 2 ^ 31 - 1) (omega arith) (omega arith)
      (is_shift lowest 0 (2 ^ 31) (2 ^ 31) (2 ^ 32) 0 (omega arith) lowest_is)
      (is_shift highest (2 ^ 31 - 1) 0 (2 ^ 32 + 2 ^ 31 - 1) (2 ^ 32) 0 (omega arith) highest_is) low high).0

  -- the pattern is that of n, and n - 2 ^ 32 is t - 2 ^ 32 or the next number
  record Beside (t : ℕ) : Type 0 where
    n : ℕ
    least : t ≤ n
    most : n ≤ t + 1
    pattern_of_lem : bits ≡ pattern n
    left : Is back n (2 ^ 32) 0

  -- which holds where x lies between the two
  beside : (t : ℕ) → t < 2 ^ 33 → le (point t) x ≡ true → le x (point (t + 1)) ≡ true → Beside t
  beside t h l r =
      let b = between x (point t) (point (t + 1)) t (t + 1) (omega arith) (omega arith) (point_is t (omega arith)) (point_is (t + 1) (omega arith)) l r in
      let e : bits ≡ pattern (bits - pattern 0) = omega arith in
      record { n = bits - pattern 0; least = omega arith; most = omega arith; pattern_of_lem = e; left = taken_off x (bits - pattern 0) (omega arith) e }

  floor_range : (downs (floor_z x) ≤ ups (floor_z x) + 2 ^ 31) × (ups (floor_z x) < 2 ^ 31 + downs (floor_z x))
  floor_range =
      let f = floor_z x in
      let p = leb-true (0 + downs f) (ups f + 2 ^ 31) (sym (le_floor x lowest 0 (2 ^ 31) some (omega arith) (omega arith) lowest_is) ∙ low) in
      let q = ltb-true (ups f + 0) (2 ^ 31 + downs f) (sym (floor_lt x after (2 ^ 31) 0 some (omega arith) (omega arith) after_is) ∙ le_lt_trans x highest after high lt_after) in
      (omega arith, omega arith)

  ceil_range : (downs (ceil_z x) ≤ ups (ceil_z x) + 2 ^ 31) × (ups (ceil_z x) < 2 ^ 31 + downs (ceil_z x))
  ceil_range =
      let g = ceil_z x in
      let p = leb-true (0 + ups g) (downs g + (2 ^ 31 - 1)) (sym (ceil_le x highest (2 ^ 31 - 1) 0 some (omega arith) (omega arith) highest_is) ∙ high) in
      let q = ltb-true (downs g + 0) (2 ^ 31 + 1 + ups g) (sym (lt_ceil x before 0 (2 ^ 31 + 1) some (omega arith) (omega arith) before_is) ∙ lt_le_trans before lowest x before_lt low) in
      (omega arith, omega arith)

  -- the floor is t - 2 ^ 32: one less where what is left is above x
  floor_at : (t : ℕ) → t + downs (floor_z x) ≡ ups (floor_z x) + 2 ^ 32 → 2 ^ 31 ≤ t → t < 2 ^ 32 + 2 ^ 31 → bits ≡ pattern (2 ^ 31) + bool_byte (lt x back) + biased (floor_z x)
  floor_at t e p q =
      let f = floor_z x in
      let l = le_floor x (point t) t (2 ^ 32) some (omega arith) (omega arith) (point_is t (omega arith)) ∙ le-leb (t + downs f) (ups f + 2 ^ 32) (omega arith) in
      let h = floor_lt x (point (t + 1)) (t + 1) (2 ^ 32) some (omega arith) (omega arith) (point_is (t + 1) (omega arith)) ∙ lt-ltb (ups f + 2 ^ 32) (t + 1 + downs f) (omega arith) in
      go (beside t (omega arith) l (lt_le x (point (t + 1)) h))
    where
      go : Beside t → bits ≡ pattern (2 ^ 31) + bool_byte (lt x back) + biased (floor_z x)
      go b =
          let c : b.n ≡ bool_byte (lt x back) + t =
          rw (floor_lt x back b.n (2 ^ 32) some (omega arith) (omega arith) b.left) (floor_byte b.n t (ups (floor_z x)) (downs (floor_z x)) e b.least b.most) in
          let u : biased (floor_z x) ≡ t - 2 ^ 31 = biased_at (floor_z x) (t - 2 ^ 31) (omega arith) (omega arith) in
          omega arith

  pub floor_column : bits ≡ pattern (2 ^ 31) + bool_byte (lt x back) + biased (floor_z x)
  floor_column = let r = floor_range in floor_at (ups (floor_z x) + 2 ^ 32 - downs (floor_z x)) (omega arith) (omega arith) (omega arith)

  -- the ceiling is t + 1 - 2 ^ 32: one more where what is left is below x
  ceil_at : (t : ℕ) → t + 1 + downs (ceil_z x) ≡ ups (ceil_z x) + 2 ^ 32 → 2 ^ 31 ≤ t + 1 → t + 1 < 2 ^ 32 + 2 ^ 31 → bits + bool_byte (lt back x) ≡ pattern (2 ^ 31) + biased (ceil_z x)
  ceil_at t e p q =
      let g = ceil_z x in
      let l = lt_ceil x (point t) t (2 ^ 32) some (omega arith) (omega arith) (point_is t (omega arith)) ∙ lt-ltb (downs g + t) (2 ^ 32 + ups g) (omega arith) in
      let h = ceil_le x (point (t + 1)) (t + 1) (2 ^ 32) some (omega arith) (omega arith) (point_is (t + 1) (omega arith)) ∙ le-leb (2 ^ 32 + ups g) (downs g + (t + 1)) (omega arith) in
      go (beside t (omega arith) (lt_le (point t) x l) h)
    where
      go : Beside t → bits + bool_byte (lt back x) ≡ pattern (2 ^ 31) + biased (ceil_z x)
      go b =
          let c : b.n + bool_byte (lt back x) ≡ t + 1 =
          rw (lt_ceil x back b.n (2 ^ 32) some (omega arith) (omega arith) b.left) (ceil_byte b.n (t + 1) (ups (ceil_z x)) (downs (ceil_z x)) e (omega arith) b.most) in
          let u : biased (ceil_z x) ≡ t + 1 - 2 ^ 31 = biased_at (ceil_z x) (t + 1 - 2 ^ 31) (omega arith) (omega arith) in
          omega arith

  pub ceil_column : bits - pattern (2 ^ 31) + bool_byte (lt back x) ≡ biased (ceil_z x)
  ceil_column =
      let r = ceil_range in
      let e = ceil_at (ups (ceil_z x) + 2 ^ 32 - downs (ceil_z x) - 1) (omega arith) (omega arith) (omega arith) in
      let l = bits_least in
      omega arith

-- ---- outside of the range
biased_under : (z : ℤ) → ups z + 2 ^ 31 ≤ downs z → biased z ≡ 0
biased_under (pos n) h = absurd (let e : ⊥ = omega arith in e)
biased_under (negsuc n) h = omega arith

biased_over : (z : ℤ) → 2 ^ 31 - 1 + downs z ≤ ups z → biased z ≡ 2 ^ 32 - 1
biased_over (pos n) h = omega arith
biased_over (negsuc n) h = absurd (let e : ⊥ = omega arith in e)

-- what is below the range, and what is above it
low_side : (x : Float) → is_nan x ≡ false → le lowest x ≡ false → lt x lowest ≡ true
unfolding neg of_bits is_nan
low_side x s h = not_le_lt lowest x refl s h

high_side : (x : Float) → is_nan x ≡ false → le x highest ≡ false → lt highest x ≡ true
unfolding of_bits is_nan
high_side x s h = not_le_lt x highest s refl h

-- floor (true) and ceiling (false)
under : (d : Bool) (x : Float) → is_nan x ≡ false → lt x lowest ≡ true → biased (toward d x) ≡ 0
under true x s h =
    let l = ltb-true (ups (floor_z x) + 2 ^ 31) (0 + downs (floor_z x)) (sym (floor_lt x lowest 0 (2 ^ 31) s (omega arith) (omega arith) lowest_is) ∙ h) in
    biased_under (floor_z x) (omega arith)
under false x s h =
    let l = leb-true (2 ^ 31 + ups (ceil_z x)) (downs (ceil_z x) + 0) (sym (ceil_le x lowest 0 (2 ^ 31) s (omega arith) (omega arith) lowest_is) ∙ lt_le x lowest h) in
    biased_under (ceil_z x) (omega arith)

over : (d : Bool) (x : Float) → is_nan x ≡ false → lt highest x ≡ true → biased (toward d x) ≡ 2 ^ 32 - 1
over true x s h =
    let l = leb-true (2 ^ 31 - 1 + downs (floor_z x)) (ups (floor_z x) + 0) (sym (le_floor x highest (2 ^ 31 - 1) 0 s (omega arith) (omega arith) highest_is) ∙ lt_le highest x h) in
    biased_over (floor_z x) (omega arith)
over false x s h =
    let l = ltb-true (downs (ceil_z x) + (2 ^ 31 - 1)) (0 + ups (ceil_z x)) (sym (lt_ceil x highest (2 ^ 31 - 1) 0 s (omega arith) (omega arith) highest_is) ∙ h) in
    biased_over (ceil_z x) (omega arith)

-- `column_beyond` tells the two apart by their signs
lowest_low : le lowest nought ≡ true
unfolding neg of_bits le
lowest_low = refl

highest_high : le nought highest ≡ true
unfolding of_bits le
highest_high = refl

pub beyond_low : (x : Float) → lt x nought ≡ true → beyond x ≡ 0
unfolding beyond
beyond_low x h = rw h refl

pub beyond_none : (x : Float) → lt x nought ≡ false → is_nan x ≡ true → beyond x ≡ 2 ^ 31
unfolding beyond
beyond_none x h k = rw (h, k) refl

pub beyond_high : (x : Float) → lt x nought ≡ false → is_nan x ≡ false → beyond x ≡ 2 ^ 32 - 1
unfolding beyond
beyond_high x h k = rw (h, k) refl

beyond_nan : (d : Bool) → beyond nan ≡ biased (toward d nan)
unfolding beyond lt is_nan floor_z ceil_z
beyond_nan true = refl
beyond_nan false = refl

pub beyond_column : (d : Bool) (x : Float) → (le lowest x ≡ false) ⊎ (le x highest ≡ false) → beyond x ≡ biased (toward d x)
beyond_column d x h = go (is_nan x) refl
  where
    low : is_nan x ≡ false → lt x lowest ≡ true → beyond x ≡ biased (toward d x)
    low s h = beyond_low x (lt_le_trans x lowest nought h lowest_low) ∙ sym (under d x s h)

    high : is_nan x ≡ false → lt highest x ≡ true → beyond x ≡ biased (toward d x)
    high s h =
        let k = le_lt_trans nought highest x highest_high h in
        beyond_high x (le_lt nought x (lt_le nought x k)) s ∙ sym (over d x s h)

    go : (t : Bool) → is_nan x ≡ t → beyond x ≡ biased (toward d x)
    go true e = subst (λ (y : Float). beyond y ≡ biased (toward d y)) (sym (is_nan_is x e)) (beyond_nan d)
    go false e = ⊎_elim (λ l. low e (low_side x e l)) (λ l. high e (high_side x e l)) h
