-- The yard class (RULES 1.12, 8.4): cell size a power of two from 2 to 1,024, radius whole. The float steps of a centre, of the square of width 2 r at it and of the shift,
-- as the Rust takes them, and the same in whole numbers with flooring division. Definitions only; `proofs/YardLaws.antt` shows that the two agree in the class.
use Rattle.std.specs.Prelude.{ℕ, zero, suc, ◌+◌, ◌*◌, ◌/◌, Bool, false, ◌&&◌, ◌||◌, ℤ, pos, negsuc, ◌+ℤ◌, ◌-ℤ◌, ◌*ℤ◌, neg_ℤ, int_le, Float}
use Rattle.std.specs.Float.{binary64}
use Rattle.std.specs.Float.Ieee.{add, sub, mul, div, eq, le, to_unsigned}
use Rattle.ieee.specs.Constants.{nought, half, pow2}
use Rattle.ieee.specs.Whole.{ceil_div, ceil_z, floor_f}

-- ---- in floats: c is the cell size, r the radius, n the cell's column or row
-- `Cell::center_point` (occupancy/mod.rs)
unfoldable pub centre_f : Float → Float → Float
unfolding mul add
centre_f c n = mul binary64 c (add binary64 n half)

-- half of the width 2 r (sparse_grid.rs, `is_square_occupied`, given 2.0 * r)
unfoldable pub half_width_f : Float → Float
unfolding mul div
half_width_f r = div binary64 (mul binary64 (pow2 1) r) (pow2 1)

-- the square's two corners, and the quotients whose floor and ceiling bound its cells
unfoldable pub low_corner_f : Float → Float → Float → Float
unfolding centre_f half_width_f sub
low_corner_f c r n = sub binary64 (centre_f c n) (half_width_f r)

unfoldable pub high_corner_f : Float → Float → Float → Float
unfolding centre_f half_width_f add
high_corner_f c r n = add binary64 (centre_f c n) (half_width_f r)

unfoldable pub low_f : Float → Float → Float → Float
unfolding low_corner_f div
low_f c r n = div binary64 (low_corner_f c r n) c

unfoldable pub high_f : Float → Float → Float → Float
unfolding high_corner_f div
high_f c r n = div binary64 (high_corner_f c r n) c

-- the number whose ceiling is the shift (occupancy/mod.rs, `calculate_cell_shift`)
unfoldable pub shift_f : Float → Float → Float
unfolding add div
shift_f c r = add binary64 (div binary64 r c) half

-- ---- the class, as tests on f64 values: c is 2, 4, .. or 2 ^ k, and r is its own floor; with what every accepted radius has (RULES 3.1): not below zero, shift at most 64
-- (the model's `max_shift`, Limits.antt, which is above this crate)
unfoldable pub is_power : ℕ → Float → Bool
is_power zero c = false
is_power (suc k) c = eq c (pow2 (suc k)) || is_power k c

unfoldable pub is_whole : Float → Bool
unfolding eq floor_f
is_whole r = eq r (floor_f r)

unfoldable pub in_yard : Float → Float → Bool
unfolding is_power is_whole le ceil_z shift_f
in_yard c r = is_power 10 c && is_whole r && le nought r && int_le (ceil_z (shift_f c r)) (pos 64)

-- ---- in whole numbers: C and R are the numbers that c and r are, n is the cell's column or row
abbrev pub whole_n : Float → ℕ
whole_n x = to_unsigned 64 x

-- flooring division, and its mirror image, which rounds up
abbrev pub div_z : ℤ → ℕ → ℤ
div_z (pos n) d = pos (n / d)
div_z (negsuc n) d = negsuc (n / d)

abbrev pub up_div_z : ℤ → ℕ → ℤ
up_div_z z d = neg_ℤ (div_z (neg_ℤ z) d)

-- twice the centre
abbrev pub twice_centre_z : ℕ → ℤ → ℤ
twice_centre_z C n = pos C *ℤ (pos 2 *ℤ n +ℤ pos 1)

-- the first cell of the square, and the one past its last
abbrev pub low_z : ℕ → ℕ → ℤ → ℤ
low_z C R n = div_z (twice_centre_z C n -ℤ pos (2 * R)) (2 * C)

abbrev pub high_z : ℕ → ℕ → ℤ → ℤ
high_z C R n = up_div_z (twice_centre_z C n +ℤ pos (2 * R)) (2 * C)

-- the shift, (2 R + C) / (2 C) rounded up
abbrev pub shift_n : ℕ → ℕ → ℕ
shift_n C R = ceil_div (2 * R + C) (2 * C)
