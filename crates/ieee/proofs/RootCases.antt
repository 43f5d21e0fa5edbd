-- `root` by the tests that it makes: above zero, below zero, neither. Assumes nothing.
use Rattle.std.proofs.Common.{◌≡◌, ℕ, zero, suc, ◌*◌, ◌/◌, ◌^◌, ◌<◌, ◌≤◌, Bool, true, false, cond, T, ◌⊎◌, ℤ, sym, refl, ap, ◌∙◌, subst, inl, inr, true≢false, eq-zero-or-pos, arith}
use mathlib.Core.Bool.{false≢true}
use lib.Dec.{eqb-suc-zero}
use lib.Ieee.{Float, nan, inf, fin, binary64, up, down, lt, fits, of_bits, to_bits}
use lib.Ieee.Bits.{of_bits-to_bits}
use Rattle.ieee.specs.Constants.{nought}
use Rattle.ieee.specs.Root.{root_units, root_f}
use Rattle.ieee.specs.RootSteps.{bit_units}
use Rattle.ieee.proofs.RootBits.{units_of, bits_under}
use Rattle.ieee.proofs.Tools.{not_both}
use Rattle.ieee.proofs.Signs.{not_below, is_below, is_above, zero_not_above, zero_not_below}

-- ---- what is above zero: the infinity, or finite and not zero
pub above_shape : (x : Float) → lt nought x ≡ true → (x ≡ inf false) ⊎ ((m : ℕ) × (e : ℤ) × (x ≡ fin false (suc m) e))
above_shape nan h = absurd (false≢true (unfold lt in h))
above_shape (inf true) h = absurd (false≢true (unfold lt in h))
above_shape (inf false) h = inl refl
above_shape (fin s zero e) h = absurd (zero_not_above s e h)
above_shape (fin true (suc m) e) h = absurd (false≢true (unfold lt in h))
above_shape (fin false (suc m) e) h = inr (m, e, refl)

pub inf_bits : to_bits binary64 (inf false) ≡ 2047 * 2 ^ 52
unfolding to_bits
inf_bits = refl

pub some_bits : (x : Float) → T (fits binary64 x) → lt nought x ≡ true → 0 < to_bits binary64 x
unfolding lt of_bits
some_bits x t h = go (eq-zero-or-pos (to_bits binary64 x))
  where
    go : (to_bits binary64 x ≡ 0) ⊎ (0 < to_bits binary64 x) → 0 < to_bits binary64 x
    go (inl e) = not_both h (subst (λ (y : Float). lt nought y ≡ false) (ap (of_bits binary64) (sym e) ∙ of_bits-to_bits binary64 x t) refl)
    go (inr k) = k

-- ---- the root in each case
pub root_finite : (x : Float) → T (fits binary64 x) → lt nought x ≡ true → to_bits binary64 x < 2047 * 2 ^ 52 → root_units (bit_units (to_bits binary64 x)) ≡ root_f x
unfolding root_f
root_finite x t h k =
    elim (above_shape x h) [
      | inl e ↦ absurd (clash (to_bits binary64 x) (2047 * 2 ^ 52) (ap (to_bits binary64) e ∙ inf_bits) k)
      | inr (m, e, p) ↦
          subst (λ (y : Float). root_units (bit_units (to_bits binary64 y)) ≡ root_f y) (sym p)
          (ap root_units (sym (units_of (suc m) e (subst (λ (y : Float). T (fits binary64 y)) p t)))
          ∙ sym (ap (λ (b : Bool). cond b (fin false (suc m) e) (root_units (suc m * up e * 2 ^ 1074 / down e))) (eqb-suc-zero m)))
    ]
  where
    clash : (a b : ℕ) → a ≡ b → a < b → ⊥
    clash a b e h = omega arith

pub root_endless : (x : Float) → T (fits binary64 x) → lt nought x ≡ true → 2047 * 2 ^ 52 ≤ to_bits binary64 x → x ≡ root_f x
unfolding root_f
root_endless x t h k =
    elim (above_shape x h) [
      | inl e ↦ subst (λ (y : Float). y ≡ root_f y) (sym e) refl
      | inr (m, e, p) ↦
          absurd (clash (to_bits binary64 x) (2047 * 2 ^ 52)
          (subst (λ (y : Float). to_bits binary64 y < 2047 * 2 ^ 52) (sym p) (bits_under (suc m) e (subst (λ (y : Float). T (fits binary64 y)) p t))) k)
    ]
  where
    clash : (a b : ℕ) → a < b → b ≤ a → ⊥
    clash a b e h = omega arith

pub root_below : (x : Float) → lt x nought ≡ true → nan ≡ root_f x
unfolding root_f
root_below nan h = refl
root_below (inf true) h = refl
root_below (inf false) h = absurd (false≢true (unfold lt in h))
root_below (fin s zero e) h = absurd (zero_not_below s e h)
root_below (fin true (suc m) e) h = sym (ap (λ (b : Bool). cond b (fin true (suc m) e) nan) (eqb-suc-zero m))
root_below (fin false (suc m) e) h = absurd (not_below (suc m) e h)

pub root_neither : (x : Float) → lt nought x ≡ false → lt x nought ≡ false → x ≡ root_f x
unfolding root_f
root_neither nan h k = refl
root_neither (inf true) h k = absurd (true≢false (unfold lt in k))
root_neither (inf false) h k = absurd (true≢false (unfold lt in h))
root_neither (fin s zero e) h k = refl
root_neither (fin true (suc m) e) h k = absurd (is_below m e k)
root_neither (fin false (suc m) e) h k = absurd (is_above m e h)
