-- A radius is bad exactly if one of the code's tests fails. Assumes nothing.
use Prim.Native.Nat.{ℕ, zero, suc}
use native.Mathlib.Omega.{arith}
use mathlib.Core.Path.{◌≡◌, refl}
use mathlib.Core.Logic.{⊎_elim}
use mathlib.Core.Bool.{true, false, not, false≢true, true≢false}
use lib.IntN.{ℤ, pos, negsuc, nat_abs}
use lib.Signed.{le_z, lt_z}
use lib.Ieee.{Float, nan, inf, fin, le, lt, eq}
use borrow.Author.Tests.{le-leb, le-ltb, lt-leb, lt-ltb}
use Rattle.std.specs.Int.{int_max}
use Rattle.ieee.proofs.Tools.{lt_or_ge}
use Rattle.ieee.specs.Constants.{nought}
use Rattle.ieee.specs.Whole.{ceil_z}
use Rattle.ieee.specs.Yard.{shift_f}
use Rattle.model.specs.Limits.{max_shift}
use Rattle.model.specs.Map.{natural}
use Rattle.model.specs.Refusal.{bad_radius}

pub radius_low : (c r : Float) → le nought r ≡ false → bad_radius c r ≡ true
unfolding bad_radius
radius_low c nan h = refl
radius_low c (inf s) h = refl
radius_low c (fin s m e) h = rw h

pub radius_endless : (c r : Float) → lt r (inf false) ≡ false → bad_radius c r ≡ true
unfolding bad_radius lt
radius_endless c nan h = refl
radius_endless c (inf s) h = refl
radius_endless c (fin s m e) h = absurd (true≢false h)

pub radius_far : (c r : Float) → le nought r ≡ true → lt r (inf false) ≡ true → bad_radius c r ≡ not (le_z (ceil_z (shift_f c r)) (pos max_shift))
unfolding bad_radius le lt eq
radius_far c nan h k = absurd (false≢true h)
radius_far c (inf true) h k = absurd (false≢true h)
radius_far c (inf false) h k = absurd (false≢true k)
radius_far c (fin s m e) h k = rw h

pub over : (n : ℕ) (z : ℤ) → not (le_z z (pos n)) ≡ lt_z (pos n) z
over n (pos m) = ⊎_elim (λ h. rw (lt-leb m n h, lt-ltb n m h) refl) (λ h. rw (le-leb m n h, le-ltb n m h) refl) (lt_or_ge n m)
over n (negsuc m) = refl

-- the shift as a natural number
pub natural_is : (z : ℤ) → nat_abs (int_max z (pos 0)) ≡ natural z
natural_is (pos zero) = refl
natural_is (pos (suc n)) = rw (lt-ltb 0 (suc n) (omega arith)) refl
natural_is (negsuc n) = refl
