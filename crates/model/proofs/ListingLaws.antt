-- Numbers are printed as they are: read back in decimal, what is printed of n is n. Assumes nothing.
use Prim.Native.Nat.{ℕ, zero, suc, ◌+◌, ◌-◌, ◌*◌, ◌/◌, ◌%◌, ◌<◌}
use native.Mathlib.Nat.{not-suc-le-zero}
use native.Mathlib.Omega.{arith}
use mathlib.Core.Path.{◌≡◌, refl, ap, ◌∙◌}
use mathlib.Core.Bool.{Bool, true, false, cond}
use mathlib.Core.List.{List, [], ◌∷◌}
use lib.Dec.{ltb}
use borrow.Author.Tests.{ltb-true, ltb-false}
use Rattle.model.specs.Listing.{digits, decimal}

-- the number that digits stand for, n standing before them
unfoldable pub value_from : ℕ → List ℕ → ℕ
value_from n [] = n
value_from n (d ∷ l) = value_from (n * 10 + (d - 48)) l

digits_value : (f n : ℕ) (l : List ℕ) → n < f → value_from 0 (digits f n l) ≡ value_from n l
unfolding digits value_from
digits_value zero n l h = absurd (not-suc-le-zero h)
digits_value (suc f) n l h = go (ltb n 10) refl (digits_value f (n / 10) ((48 + n % 10) ∷ l))
  where
    go : (b : Bool) → ltb n 10 ≡ b → (n / 10 < f → value_from 0 (digits f (n / 10) ((48 + n % 10) ∷ l)) ≡ value_from (n / 10 * 10 + (48 + n % 10 - 48)) l)
        → value_from 0 (cond b ((48 + n % 10) ∷ l) (digits f (n / 10) ((48 + n % 10) ∷ l))) ≡ value_from n l
    go true q ih =
        let s = ltb-true n 10 q in
        let e : 0 * 10 + (48 + n % 10 - 48) ≡ n = omega arith in
        ap (λ (m : ℕ). value_from m l) e
    go false q ih =
        let s = ltb-false n 10 q in
        let k : n / 10 < f = omega arith in
        let e : n / 10 * 10 + (48 + n % 10 - 48) ≡ n = omega arith in
        ih k ∙ ap (λ (m : ℕ). value_from m l) e

-- The digits that are printed of n stand for n.
pub decimal_value : (n : ℕ) → value_from 0 (decimal n) ≡ n
unfolding value_from
decimal_value n = digits_value (suc n) n [] (omega arith)
