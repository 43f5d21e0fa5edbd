-- Signed numbers as the machine holds them, and the tests on coordinates. Assumes nothing.
use Prim.Native.Nat.{ℕ, zero, suc, ◌-◌, ◌≤◌, ◌<◌, ◌^◌}
use native.Mathlib.Omega.{arith}
use mathlib.Core.Path.{◌≡◌, refl}
use mathlib.Core.Bool.{true, false, not, false≢true}
use lib.Dec.{eqb}
use lib.IntN.{ℤ, pos, negsuc}
use lib.Signed.{le_z, lt_z, mag}
use borrow.Author.Tests.{lt-ltb, le-ltb, ltb-true, ltb-false, ne_eqb}
use mir.Syntax.{w64}
use mir.Val.{SFits, to_z, of_z}
use mir.ValLaws.{to_z-of_z}
use Rattle.model.specs.Refusal.{off_map}
use Rattle.limits.specs.Batches.{is_full}

-- an element that was read is as it was
pub back : (z : ℤ) → mag z < 2 ^ 63 → to_z w64 (of_z w64 z) ≡ z
back z h = to_z-of_z w64 z (record { sfits = h })

-- ---- any number but 0 says occupied; the machine looks at its bits
pub not_zero : (z : ℤ) → mag z < 2 ^ 63 → not (eqb (of_z w64 z) 0) ≡ is_full z
not_zero (pos zero) h = refl
not_zero (pos (suc n)) h = rw (ne_eqb (suc n) 0 (λ e. omega arith))
not_zero (negsuc n) h = let l : n < 2 ^ 63 = h in rw (ne_eqb (2 ^ 64 - suc n) 0 (λ e. omega arith))
