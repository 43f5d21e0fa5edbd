-- Batches by their lengths: whole entries only are taken. Evaluated.
use Prim.Native.Nat.{ℕ, zero, suc}
use mathlib.Core.Path.{◌≡◌, refl}
use mathlib.Core.List.{List, [], ◌∷◌, ◌++◌}
use lib.IntN.{ℤ, pos}
use Rattle.model.specs.Refusal.{first_due, is_due, outside, unsorted, verdict}
use Rattle.limits.specs.Batches.{ragged}
use Rattle.limits.specs.Words.{looked}

-- n cells of a row, from the column k on, each to be occupied
row : ℕ → ℕ → List ℤ
row zero k = []
row (suc n) k = pos k ∷ pos 0 ∷ pos 1 ∷ row n (suc k)

-- what it is refused with
refuses : List ℤ → ℕ
refuses b = verdict (looked b)

unfoldable everything : Unit {0}
unfolding row refuses verdict first_due is_due ragged outside unsorted
everything = tt

-- 0, 3 and 768 numbers
whole : (refuses [] ≡ 0) × (refuses (row 1 7) ≡ 0) × (refuses (row 256 0) ≡ 0)
unfolding everything
whole = (refl, refl, refl)

-- 1, 2, 4 and 770 numbers
left_over : (refuses (pos 7 ∷ []) ≡ 4) × (refuses (pos 7 ∷ pos 0 ∷ []) ≡ 4) × (refuses (row 1 7 ++ pos 8 ∷ []) ≡ 4) × (refuses (row 256 0 ++ pos 256 ∷ pos 0 ∷ []) ≡ 4)
unfolding everything
left_over = (refl, refl, refl, refl)

-- 771 and 772 numbers: 3 comes before 4
too_many : (refuses (row 257 0) ≡ 3) × (refuses (row 257 0 ++ pos 257 ∷ []) ≡ 3)
unfolding everything
too_many = (refl, refl)
