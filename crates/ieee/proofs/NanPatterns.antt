-- A pattern above infinity's is the NaN. Assumes nothing.
use Rattle.std.proofs.Common.{◌≡◌, ℕ, ◌*◌, ◌%◌, ◌^◌, ◌<◌, true, sym, refl, ◌∙◌, lt-ltb}
use lib.Ieee.{Float, nan, inf, fin, binary64, div, is_nan, of_bits}
use lib.Ieee.Bits.{nan_bits_above, nan_bits_is}
use Rattle.ieee.proofs.Tools.{not_both}

nan_is : (x : Float) → is_nan x ≡ true → x ≡ nan
unfolding is_nan
nan_is nan h = refl
nan_is (inf s) h = not_both h refl
nan_is (fin s m e) h = not_both h refl

pub quotient : div binary64 (of_bits binary64 0) (of_bits binary64 0) ≡ nan
unfolding div of_bits
quotient = refl

pub nan_pattern : (n : ℕ) → 2047 * 2 ^ 52 < n % 2 ^ 63 → nan ≡ of_bits binary64 n
nan_pattern n h = sym (nan_is (of_bits binary64 n) (sym (nan_bits_is binary64 n) ∙ nan_bits_above binary64 n ∙ lt-ltb (2047 * 2 ^ 52) (n % 2 ^ 63) h))
