-- Worked examples of the definitions, by computation. The cell size 256 is `pow2 8`. Assumes nothing.
use Rattle.std.proofs.Common.{◌≡◌, true, false, pos, negsuc, refl}
use lib.Ieee.{nan, inf, fin, binary64, div, of_int, of_bits}
use Rattle.ieee.specs.Constants.{pow2}
use Rattle.ieee.specs.Whole.{floor_z, ceil_z}
use Rattle.ieee.specs.Yard.{shift_f, low_f, high_f, in_yard}
use Rattle.ieee.specs.Root.{root_f}

-- RULES 9.2, example 1: r = 0 and 128 give s = 1; r = 129 gives 2
shifts : (ceil_z (shift_f (pow2 8) (of_int binary64 (pos 0))) ≡ pos 1) × (ceil_z (shift_f (pow2 8) (of_int binary64 (pos 128))) ≡ pos 1)
    × (ceil_z (shift_f (pow2 8) (of_int binary64 (pos 129))) ≡ pos 2)
unfolding ceil_z shift_f of_int
shifts = (refl, refl, refl)

-- RULES 9.2, example 2: coordinate -1 is in cell -1, 0 in 0, 256 in 1
cells : (floor_z (div binary64 (of_int binary64 (negsuc 0)) (pow2 8)) ≡ negsuc 0) × (floor_z (div binary64 (of_int binary64 (pos 0)) (pow2 8)) ≡ pos 0)
    × (floor_z (div binary64 (of_int binary64 (pos 256)) (pow2 8)) ≡ pos 1)
unfolding floor_z div of_int
cells = (refl, refl, refl)

-- RULES 9.2, example 8: at the centre of cell 0, width 256 covers cell 0 only, width 258 covers -1 to 1
squares : (floor_z (low_f (pow2 8) (of_int binary64 (pos 128)) (of_int binary64 (pos 0))) ≡ pos 0) × (ceil_z (high_f (pow2 8) (of_int binary64 (pos 128)) (of_int binary64 (pos 0))) ≡ pos 1)
    × (floor_z (low_f (pow2 8) (of_int binary64 (pos 129)) (of_int binary64 (pos 0))) ≡ negsuc 0) × (ceil_z (high_f (pow2 8) (of_int binary64 (pos 129)) (of_int binary64 (pos 0))) ≡ pos 2)
unfolding floor_z ceil_z low_f high_f of_int
squares = (refl, refl, refl, refl)

-- the class has members: c = 256 with r = 128, with -0 and with the largest radius, 16,256. It has not: the next radius, a broken one, 2 ^ 1000, infinity, NaN, or c = 3
members : (in_yard (pow2 8) (of_int binary64 (pos 128)) ≡ true) × (in_yard (pow2 8) (fin true 0 (pos 0)) ≡ true) × (in_yard (pow2 8) (of_int binary64 (pos 16256)) ≡ true)
unfolding in_yard of_int
members = (refl, refl, refl)

others : (in_yard (pow2 8) (of_int binary64 (pos 16257)) ≡ false) × (in_yard (pow2 8) (fin false 1 (negsuc 0)) ≡ false)
    × (in_yard (pow2 8) (pow2 1000) ≡ false) × (in_yard (pow2 8) (inf false) ≡ false) × (in_yard (pow2 8) nan ≡ false) × (in_yard (of_int binary64 (pos 3)) (of_int binary64 (pos 128)) ≡ false)
unfolding in_yard of_int
others = (refl, refl, refl, refl, refl, refl)

-- the root of 2, of 0.1, of the smallest and of the largest value, of -0 and of -1
roots : (root_f (of_bits binary64 0x4000_0000_0000_0000) ≡ of_bits binary64 0x3ff6_a09e_667f_3bcd) × (root_f (of_bits binary64 0x3fb9_9999_9999_999a) ≡ of_bits binary64 0x3fd4_3d13_6248_490f)
    × (root_f (of_bits binary64 1) ≡ of_bits binary64 0x1e60_0000_0000_0000) × (root_f (of_bits binary64 0x7fef_ffff_ffff_ffff) ≡ of_bits binary64 0x5fef_ffff_ffff_ffff)
    × (root_f (fin true 0 (pos 0)) ≡ fin true 0 (pos 0)) × (root_f (of_bits binary64 0xbff0_0000_0000_0000) ≡ nan)
unfolding root_f of_bits
roots = (refl, refl, refl, refl, refl, refl)
