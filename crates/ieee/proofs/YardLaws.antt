-- In the yard class no float step loses anything: centre, corners and quotients are exact, so the square's cells and the shift are those of whole numbers. Assumes nothing.
use Rattle.std.proofs.Common.{◌≡◌, ℕ, ◌+◌, ◌-◌, ◌*◌, ◌^◌, ◌<◌, ◌≤◌, Bool, true, false, eqb, ℤ, pos, ◌+ℤ◌, ◌-ℤ◌, neg_ℤ, sym, refl, ap, ◌∙◌, subst, mul_assoc, mul-le-mul, arith, pow_pos, pow_mono, pow-add, eqb-true}
use lib.Signed.{mag}
use borrow.Author.Tests.{eqb-false}
use lib.Ieee.{Float, binary64, add, sub, mul, div, neg, of_int}
use lib.Ieee.Fits.{sub-fits}
use Rattle.ieee.specs.Constants.{half, pow2}
use Rattle.ieee.specs.Whole.{biased, unbias, floor_z, ceil_z}
use Rattle.ieee.specs.Yard.{centre_f, half_width_f, low_corner_f, high_corner_f, low_f, high_f, shift_f, whole_n, div_z, up_div_z, twice_centre_z, low_z, high_z, shift_n}
use Rattle.ieee.proofs.Integers.{ups, downs, neg_ups, neg_downs, add_parts, less_parts, parts_le, add_le, parts_mag, biased_at, unbias_parts, unbias_mag}
use Rattle.ieee.proofs.Dyadic.{Is, is_nat, is_pow, is_half, is_lift, is_shift, is_add, is_sub, is_mul, is_div}
use Rattle.ieee.proofs.DyadicWhole.{IsZ, Within, is_int, as_int, neg_int, add_int, float_of_int, floor_whole, ceil_whole}
use Rattle.ieee.proofs.YardCells.{centre_parts, low_cell, high_cell}
use Rattle.ieee.proofs.YardTests.{InYard, shift_exact}

-- ---- the centre, at c = 2 ^ k
module _ (k : ℕ) (n : ℤ) (K : k ≤ 10) (inside : mag n ≤ 2 ^ 21) where
  abbrev col : Float
  col = of_int binary64 n

  abbrev mid : ℤ
  mid = twice_centre_z (2 ^ k) n

  ends : (ups n ≤ 2 ^ 21) × (downs n ≤ 2 ^ 21 + 1)
  ends = parts_mag n (2 ^ 21) inside

  middle : Is (add binary64 col half) (ups n * 2 + 1) (downs n * 2) 1
  middle =
      let e = ends in
      is_shift (add binary64 col half) (ups n * 2 + 1) (downs n * 2 + 0) (ups n * 2 + 1) (downs n * 2) 1 (omega arith)
      (is_add col half (ups n * 2) (downs n * 2) 1 0 1 (omega arith) (omega arith) (omega arith) (omega arith) (omega arith)
      (is_lift col (ups n) (downs n) 0 1 (is_int n (omega arith)))
      is_half)

  wide : ((ups n * 2 + 1) * 2 ^ k ≤ 2 ^ 23 * 1024) × (downs n * 2 * 2 ^ k ≤ 2 ^ 23 * 1024)
  wide =
      let e = ends in
      let c : 2 ^ k ≤ 1024 = pow_mono {j = 10} K in
      let a : ups n * 2 + 1 ≤ 2 ^ 23 = omega arith in
      let b : downs n * 2 ≤ 2 ^ 23 = omega arith in
      (mul-le-mul a c, mul-le-mul b c)

  mid_parts : ups mid + downs n * 2 * 2 ^ k ≡ (ups n * 2 + 1) * 2 ^ k + downs mid
  mid_parts = go (2 ^ k) (ups n) (downs n) (ups mid) (downs mid) (centre_parts (2 ^ k) n)
    where
      go : (c p q a b : ℕ) → a + q * (2 * c) ≡ p * (2 * c) + c + b → a + q * 2 * c ≡ (p * 2 + 1) * c + b
      go c p q a b h = let e = mul_assoc q 2 c in let f = mul_assoc p 2 c in omega arith

  mid_small : Within (2 ^ 40) mid
  mid_small = let w = wide in let l = parts_le mid ((ups n * 2 + 1) * 2 ^ k) (downs n * 2 * 2 ^ k) mid_parts in (omega arith, omega arith)

  mid_exact : IsZ (centre_f (pow2 k) col) mid 1
  unfolding centre_f
  mid_exact =
      let w = wide in
      as_int (mul binary64 (pow2 k) (add binary64 col half)) mid ((ups n * 2 + 1) * 2 ^ k) (downs n * 2 * 2 ^ k) 1 mid_parts
      (is_mul k (add binary64 col half) (ups n * 2 + 1) (downs n * 2) 1 (omega arith) (omega arith) (omega arith) middle)

-- half of the width is R
half_width : (r : Float) (R : ℕ) → R ≤ 2 ^ 16 → Is r R 0 0 → IsZ (half_width_f r) (pos (2 * R)) 1
unfolding half_width_f
half_width r R h v =
    is_shift (div binary64 (mul binary64 (pow2 1) r) (pow2 1)) (R * 2) 0 (2 * R) 0 1 (omega arith)
    (is_div 1 (mul binary64 (pow2 1) r) (R * 2) 0 0 (omega arith) (omega arith) (omega arith) (is_mul 1 r R 0 0 (omega arith) (omega arith) (omega arith) v))

-- ---- in the class, at a column within 2 ^ 21 of 0. C is `whole_n c`, R is `whole_n r`
module _ (c r : Float) (y : InYard c r) (n : ℤ) (inside : mag n ≤ 2 ^ 21) where
  -- from 2 ^ k to c
  carry : (P : Float → ℕ → Type 0) → P (pow2 y.k) (2 ^ y.k) → P c (whole_n c)
  carry P h = subst (λ (x : ℕ). P c x) (sym y.side) (subst (λ (x : Float). P x (2 ^ y.k)) (sym y.cell) h)

  -- the centre is C (2 n + 1) / 2 exactly
  pub centre_exact : IsZ (centre_f c (of_int binary64 n)) (twice_centre_z (whole_n c) n) 1
  centre_exact = carry (λ x d. IsZ (centre_f x (of_int binary64 n)) (twice_centre_z d n) 1) (mid_exact y.k n y.most inside)

  centre_small : Within (2 ^ 40) (twice_centre_z (whole_n c) n)
  centre_small = carry (λ x d. Within (2 ^ 40) (twice_centre_z d n)) (mid_small y.k n y.most inside)

  -- the centre moved by w / 2, as a corner is, and the quotient by c
  module _ (h : Float) (w : ℤ) (p : Within (2 ^ 18) w) (i : IsZ h w 1) where
    moved : IsZ (add binary64 (centre_f c (of_int binary64 n)) h) (twice_centre_z (whole_n c) n +ℤ w) 1
    moved =
        let s = centre_small in
        add_int (centre_f c (of_int binary64 n)) h (twice_centre_z (whole_n c) n) w 1 (omega arith) (omega arith, omega arith) (omega arith, omega arith) centre_exact i

    moved_small : Within (2 ^ 41) (twice_centre_z (whole_n c) n +ℤ w)
    moved_small = let s = centre_small in let l = add_le (twice_centre_z (whole_n c) n) w in (omega arith, omega arith)

    over : IsZ (div binary64 (add binary64 (centre_f c (of_int binary64 n)) h) c) (twice_centre_z (whole_n c) n +ℤ w) (1 + y.k)
    over =
        let z = twice_centre_z (whole_n c) n +ℤ w in
        let x = add binary64 (centre_f c (of_int binary64 n)) h in
        let s = moved_small in
        let k = y.most in
        subst (λ (d : Float). IsZ (div binary64 x d) z (1 + y.k)) (sym y.cell) (is_div y.k x (ups z) (downs z) 1 (omega arith) (omega arith) (omega arith) moved)

  right : IsZ (half_width_f r) (pos (2 * whole_n r)) 1
  right = half_width r (whole_n r) y.bound y.radius

  left : IsZ (neg (half_width_f r)) (neg_ℤ (pos (2 * whole_n r))) 1
  left = neg_int (half_width_f r) (pos (2 * whole_n r)) 1 right

  right_small : Within (2 ^ 18) (pos (2 * whole_n r))
  right_small = let b = y.bound in (omega arith, omega arith)

  left_small : Within (2 ^ 18) (neg_ℤ (pos (2 * whole_n r)))
  left_small = let b = y.bound in let u = neg_ups (pos (2 * whole_n r)) in let d = neg_downs (pos (2 * whole_n r)) in (omega arith, omega arith)

  -- the square's low corner is the centre less R, exactly
  pub low_corner_exact : IsZ (low_corner_f c r (of_int binary64 n)) (twice_centre_z (whole_n c) n -ℤ pos (2 * whole_n r)) 1
  unfolding low_corner_f sub
  low_corner_exact = moved (neg (half_width_f r)) (neg_ℤ (pos (2 * whole_n r))) left_small left

  -- its high corner is the centre plus R, exactly
  pub high_corner_exact : IsZ (high_corner_f c r (of_int binary64 n)) (twice_centre_z (whole_n c) n +ℤ pos (2 * whole_n r)) 1
  unfolding high_corner_f
  high_corner_exact = moved (half_width_f r) (pos (2 * whole_n r)) right_small right

  -- the low corner over c is exactly (C (2 n + 1) - 2 R) / (2 C): 2 C is 2 ^ (1 + k)
  pub low_exact : IsZ (low_f c r (of_int binary64 n)) (twice_centre_z (whole_n c) n -ℤ pos (2 * whole_n r)) (1 + y.k)
  unfolding low_f low_corner_f sub
  low_exact = over (neg (half_width_f r)) (neg_ℤ (pos (2 * whole_n r))) left_small left

  -- the high corner over c is exactly (C (2 n + 1) + 2 R) / (2 C)
  pub high_exact : IsZ (high_f c r (of_int binary64 n)) (twice_centre_z (whole_n c) n +ℤ pos (2 * whole_n r)) (1 + y.k)
  unfolding high_f high_corner_f
  high_exact = over (half_width_f r) (pos (2 * whole_n r)) right_small right

  twice : 2 ^ (1 + y.k) ≡ 2 * whole_n c
  twice = pow-add 2 1 y.k ∙ ap (λ (x : ℕ). 2 * x) (sym y.side)

  -- so the square's first cell is that of whole numbers
  pub low_whole : floor_z (low_f c r (of_int binary64 n)) ≡ low_z (whole_n c) (whole_n r) n
  low_whole =
      let z = twice_centre_z (whole_n c) n -ℤ pos (2 * whole_n r) in
      let s = moved_small (neg (half_width_f r)) (neg_ℤ (pos (2 * whole_n r))) left_small left in
      floor_whole (low_f c r (of_int binary64 n)) z (1 + y.k) (omega arith, omega arith) low_exact ∙ ap (div_z z) twice

  -- and so is the cell past its last
  pub high_whole : ceil_z (high_f c r (of_int binary64 n)) ≡ high_z (whole_n c) (whole_n r) n
  high_whole =
      let z = twice_centre_z (whole_n c) n +ℤ pos (2 * whole_n r) in
      let s = moved_small (half_width_f r) (pos (2 * whole_n r)) right_small right in
      ceil_whole (high_f c r (of_int binary64 n)) z (1 + y.k) (omega arith, omega arith) high_exact ∙ ap (up_div_z z) twice

module _ (c r : Float) (y : InYard c r) where
  -- the shift is (2 R + C) / (2 C) rounded up
  pub shift_whole : ceil_z (shift_f c r) ≡ pos (shift_n (whole_n c) (whole_n r))
  shift_whole =
      let b = y.bound in
      ap (λ (x : Float). ceil_z (shift_f x r)) y.cell
      ∙ shift_exact y.k (whole_n r) r y.most (omega arith) y.radius
      ∙ ap (λ (x : ℕ). pos (shift_n x (whole_n r))) (sym y.side)

  -- C is not zero
  pub side_pos : 0 < whole_n c
  side_pos = subst (λ (x : ℕ). 0 < x) (sym y.side) (pow_pos y.k)

-- ---- columns as the tables hold them, within 2 ^ 21 of 2 ^ 31
module _ (c r : Float) (y : InYard c r) (u : ℕ) (low : 2 ^ 31 - 2 ^ 21 ≤ u) (high : u ≤ 2 ^ 31 + 2 ^ 21) where
  inside : mag (unbias u) ≤ 2 ^ 21
  inside = unbias_mag u (2 ^ 21) (omega arith) high

  -- the square's first cell is s - 1 columns before u, s being the shift
  pub low_column : biased (floor_z (low_f c r (of_int binary64 (unbias u)))) ≡ u - (shift_n (whole_n c) (whole_n r) - 1)
  low_column =
      ap biased (low_whole c r y (unbias u) inside ∙ low_cell (whole_n c) (whole_n r) (unbias u) (side_pos c r y))
      ∙ go (shift_n (whole_n c) (whole_n r)) (ups (unbias u)) (downs (unbias u)) y.shift (unbias_parts u) (less_parts (unbias u) (pos (shift_n (whole_n c) (whole_n r) - 1)))
    where
      go : (s p q : ℕ) → s ≤ 64 → p + 2 ^ 31 ≡ q + u
          → ups (unbias u -ℤ pos (s - 1)) + (q + (s - 1)) ≡ p + 0 + downs (unbias u -ℤ pos (s - 1)) → biased (unbias u -ℤ pos (s - 1)) ≡ u - (s - 1)
      go s p q h e f = biased_at (unbias u -ℤ pos (s - 1)) (u - (s - 1)) (omega arith) (omega arith)

  -- the cell past its last is s columns after u
  pub high_column : biased (ceil_z (high_f c r (of_int binary64 (unbias u)))) ≡ u + shift_n (whole_n c) (whole_n r)
  high_column =
      ap biased (high_whole c r y (unbias u) inside ∙ high_cell (whole_n c) (whole_n r) (unbias u) (side_pos c r y))
      ∙ go (shift_n (whole_n c) (whole_n r)) (ups (unbias u)) (downs (unbias u)) y.shift (unbias_parts u) (add_parts (unbias u) (pos (shift_n (whole_n c) (whole_n r))))
    where
      go : (s p q : ℕ) → s ≤ 64 → p + 2 ^ 31 ≡ q + u
          → ups (unbias u +ℤ pos s) + (q + 0) ≡ p + s + downs (unbias u +ℤ pos s) → biased (unbias u +ℤ pos s) ≡ u + s
      go s p q h e f = biased_at (unbias u +ℤ pos s) (u + s) (omega arith) (omega arith)

-- a column's float may be taken as u's float less 2 ^ 31
pub column_float : (u : ℕ) → u < 2 ^ 32 → sub binary64 (of_int binary64 (pos u)) (pow2 31) ≡ of_int binary64 (unbias u)
column_float u h = go (eqb u (2 ^ 31)) refl
  where
    exact : Is (sub binary64 (of_int binary64 (pos u)) (pow2 31)) (u + 0) (0 + 2 ^ 31) 0
    exact =
        is_sub (of_int binary64 (pos u)) (pow2 31) u 0 (2 ^ 31) 0 0 (omega arith) (omega arith) (omega arith) (omega arith) (omega arith) (is_nat u (omega arith)) (is_pow 31)

    parts : ups (unbias u) + (0 + 2 ^ 31) ≡ u + 0 + downs (unbias u)
    parts = let p = unbias_parts u in omega arith

    zero_only : (z : ℤ) → ups z + 2 ^ 31 ≡ downs z + u → z ≡ pos 0 → u ≡ 2 ^ 31
    zero_only z e f = let a = ap ups f in let b = ap downs f in omega arith

    go : (b : Bool) → eqb u (2 ^ 31) ≡ b → sub binary64 (of_int binary64 (pos u)) (pow2 31) ≡ of_int binary64 (unbias u)
    go true e = subst (λ (x : ℕ). sub binary64 (of_int binary64 (pos x)) (pow2 31) ≡ of_int binary64 (unbias x)) (sym (eqb-true u (2 ^ 31) e)) (unfold sub of_int in refl)
    go false e =
        float_of_int (sub binary64 (of_int binary64 (pos u)) (pow2 31)) (unbias u) (sub-fits binary64 (of_int binary64 (pos u)) (pow2 31))
        (let m = unbias_mag u (2 ^ 31) (omega arith) (omega arith) in omega arith)
        (λ z. eqb-false u (2 ^ 31) e (zero_only (unbias u) (unbias_parts u) z))
        (as_int (sub binary64 (of_int binary64 (pos u)) (pow2 31)) (unbias u) (u + 0) (0 + 2 ^ 31) 0 parts exact)
