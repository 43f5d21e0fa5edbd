-- The absolute value, and what a test for a NaN tells. Assumes nothing.
use Rattle.std.proofs.Common.{◌≡◌, true, false, refl, ap}
use Rattle.std.specs.Float.{float_with_sign}
use lib.Ieee.{Float, nan, inf, fin, ne, is_nan}
use lib.Ieee.Compare.{differs_from_itself, nan_differs}
use Rattle.ieee.specs.Pick.{abs_f}
use Rattle.ieee.proofs.Tools.{T_true, not_both}

-- ---- the absolute value, as the library has it
pub abs_is : (x : Float) → float_with_sign false x ≡ abs_f x
unfolding float_with_sign abs_f
abs_is nan = refl
abs_is (inf s) = refl
abs_is (fin s m e) = refl

-- ---- what the test for a NaN tells
pub is_nan_lem : (x : Float) → ne x x ≡ true → is_nan x ≡ true
unfolding is_nan
is_nan_lem x h = ap is_nan (differs_from_itself x (T_true h))

pub no_nan : (x : Float) → ne x x ≡ false → is_nan x ≡ false
unfolding is_nan
no_nan nan h = not_both nan_differs h
no_nan (inf s) h = refl
no_nan (fin s m e) h = refl
