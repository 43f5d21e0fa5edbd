-- A sum of two squares is never below zero, so a root's threshold tells about its root. Assumes nothing.
use Rattle.std.proofs.Common.{◌≡◌, Bool, true, false, refl}
use lib.Ieee.{Float, nan, fin, inf, binary64, add, mul, lt, is_nan}
use Rattle.ieee.specs.Constants.{nought}
use Rattle.ieee.proofs.Monotone.{le_lt}
use Rattle.ieee.proofs.MonotoneProduct.{square_high}
use Rattle.ieee.proofs.MonotoneSum.{add_high}
use Rattle.ieee.proofs.Patterns.{is_nan_is}
use Rattle.model.specs.Plane.{Pt, dot}

add_nan : (x : Float) → add binary64 x nan ≡ nan
unfolding add
add_nan nan = refl
add_nan (inf s) = refl
add_nan (fin s m e) = refl

pub dot_not_below : (a : Pt) → lt (dot a a) nought ≡ false
unfolding dot mul add lt
dot_not_below a = go (is_nan a.x) refl (is_nan a.y) refl
  where
    go : (s : Bool) → is_nan a.x ≡ s → (t : Bool) → is_nan a.y ≡ t → lt (add binary64 (mul binary64 a.x a.x) (mul binary64 a.y a.y)) nought ≡ false
    go true h t k = rw (is_nan_is a.x h) refl
    go false h true k = rw (is_nan_is a.y k, add_nan (mul binary64 a.x a.x)) refl
    go false h false k =
        le_lt nought (add binary64 (mul binary64 a.x a.x) (mul binary64 a.y a.y))
        (add_high (mul binary64 a.x a.x) (mul binary64 a.y a.y) (square_high a.x h) (square_high a.y k))
