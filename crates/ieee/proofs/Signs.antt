-- On which side of zero a finite value lies, by its sign and its size; and how zero is written. Assumes nothing.
use Rattle.std.proofs.Common.{◌≡◌, ℕ, zero, suc, ◌+◌, ◌*◌, ◌^◌, ◌<◌, ◌≤◌, Bool, true, false, T, ℤ, pos, negsuc, sym, refl, ap, ◌∙◌, zero-lt-suc, mul-pos, one-mul, zero-mul, mul-one, arith, eqb→eq, ltb→lt, pow_pos, ltb-false}
use native.Mathlib.Nat.{pow-succ'}
use mathlib.Core.Bool.{false≢true}
use lib.Ieee.{fin, binary64, up, down, lt, fits}
use lib.Ieee.Fits.{up_pos}
use Rattle.ieee.specs.Constants.{nought}
use Rattle.ieee.proofs.Tools.{T_true}

pub size_pos : (m : ℕ) (e : ℤ) → 0 < suc m * up e * 1
size_pos m e = mul-pos (mul-pos (zero-lt-suc m) (up_pos e)) (zero-lt-suc 0)

pub not_below : (m : ℕ) (e : ℤ) → lt (fin false m e) nought ≡ true → ⊥
unfolding lt
not_below m e h = none (m * up e * 1) (0 * down e) (zero-mul (down e)) (ltb→lt (m * up e * 1) (0 * down e) (T_true h))
  where
    none : (a b : ℕ) → b ≡ 0 → a < b → ⊥
    none a b z h = omega arith

pub is_below : (m : ℕ) (e : ℤ) → lt (fin true (suc m) e) nought ≡ false → ⊥
unfolding lt
is_below m e h = over (suc m * up e * 1) (0 * down e) (size_pos m e) (ltb-false 0 (suc m * up e * 1 + 0 * down e) h)
  where
    over : (a b : ℕ) → 0 < a → a + b ≤ 0 → ⊥
    over a b p q = omega arith

pub is_above : (m : ℕ) (e : ℤ) → lt nought (fin false (suc m) e) ≡ false → ⊥
unfolding lt
is_above m e h = over (0 * down e) (suc m * up e * 1) (zero-mul (down e)) (size_pos m e) (ltb-false (0 * down e) (suc m * up e * 1) h)
  where
    over : (a b : ℕ) → a ≡ 0 → 0 < b → b ≤ a → ⊥
    over a b z p q = omega arith

pub zero_not_above : (s : Bool) (e : ℤ) → lt nought (fin s zero e) ≡ true → ⊥
unfolding lt
zero_not_above true e h = false≢true h
zero_not_above false e h = none (0 * down e) (0 * up e * 1) (ap (λ (x : ℕ). x * 1) (zero-mul (up e))) (ltb→lt (0 * down e) (0 * up e * 1) (T_true h))
  where
    none : (a b : ℕ) → b ≡ 0 → a < b → ⊥
    none a b z h = omega arith

pub zero_not_below : (s : Bool) (e : ℤ) → lt (fin s zero e) nought ≡ true → ⊥
unfolding lt
zero_not_below false e h = not_below zero e h
zero_not_below true e h = none (0 * up e * 1) (0 * down e) (ap (λ (x : ℕ). x * 1) (zero-mul (up e))) (zero-mul (down e)) (ltb→lt 0 (0 * up e * 1 + 0 * down e) (T_true h))
  where
    none : (a b : ℕ) → a ≡ 0 → b ≡ 0 → 0 < a + b → ⊥
    none a b y z h = omega arith

-- ---- a zero that fits has the exponent 0
two_up : (p : ℕ) → 0 < p → 2 * p ≡ 1 → ⊥
two_up p h e = omega arith

flat : (e : ℤ) → up e * down e ≡ 1 → e ≡ pos 0
flat (pos zero) h = refl
flat (pos (suc k)) h = absurd (two_up (2 ^ k) (pow_pos k) (sym (pow-succ' 2 k) ∙ sym (mul-one (2 ^ suc k)) ∙ h))
flat (negsuc k) h = absurd (two_up (2 ^ k) (pow_pos k) (sym (pow-succ' 2 k) ∙ sym (one-mul (2 ^ suc k)) ∙ h))

pub zero_exp : (s : Bool) (e : ℤ) → T (fits binary64 (fin s zero e)) → e ≡ pos 0
unfolding fits
zero_exp s e t = flat e (eqb→eq (up e * down e) 1 t)
