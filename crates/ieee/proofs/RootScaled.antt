-- The laws that `root_scaled` and `root_positive` cite. Assumes nothing.
use Rattle.std.proofs.Common.{◌≡◌, ℕ, zero, suc, ◌+◌, ◌-◌, ◌*◌, ◌/◌, ◌%◌, ◌^◌, ◌<◌, ◌≤◌, ◌⊎◌, sym, refl, ap, ◌∙◌, inl, inr, le_trans, le_of_eq, lt_of_lt_of_le, mul-le-mul_right, mod-eq_of_lt, mul_assoc, mul_comm, mul-lt-mul_of_pos_right, lt_of_not-le, mul-one, not-le_of_lt, arith, lit<, lit≤, pow_pos, pow_mono, pow-add}
use lib.Count.{count_leading_zeros, leading_top}
use lib.Ieee.{binary64, of_bits}
use Rattle.ieee.specs.Root.{root_units}
use Rattle.ieee.specs.RootSteps.{Scaled, Rounded, bit_units}
use Rattle.ieee.proofs.RootChecked.{rounded_mono}
use Rattle.ieee.proofs.RootCore.{root_core}
use Rattle.ieee.proofs.RootBits.{units_low, units_high, units_bits}

-- ---- m = v * (1 + g % 2)
pub by_parity : (v g : ℕ) → ((g % 2 ≡ 0) × (v * (1 + g % 2) ≡ v)) ⊎ ((g % 2 ≡ 1) × (v * (1 + g % 2) ≡ 2 * v))
by_parity v g = go (g % 2) (two g)
  where
    two : (g : ℕ) → g % 2 < 2
    two g = omega arith

    none : (k : ℕ) → suc (suc k) < 2 → ⊥
    none k h = omega arith

    go : (d : ℕ) → d < 2 → ((d ≡ 0) × (v * (1 + d) ≡ v)) ⊎ ((d ≡ 1) × (v * (1 + d) ≡ 2 * v))
    go zero h = inl (refl, mul-one v)
    go (suc zero) h = inr (refl, mul_comm v 2)
    go (suc (suc d)) h = absurd (none d h)

pub scaled_range : (v g : ℕ) → Scaled v g → (2 ^ 52 ≤ v * (1 + g % 2)) × (v * (1 + g % 2) ≤ 2 ^ 54 - 2)
scaled_range v g h = go (by_parity v g)
  where
    go : ((g % 2 ≡ 0) × (v * (1 + g % 2) ≡ v)) ⊎ ((g % 2 ≡ 1) × (v * (1 + g % 2) ≡ 2 * v)) → (2 ^ 52 ≤ v * (1 + g % 2)) × (v * (1 + g % 2) ≤ 2 ^ 54 - 2)
    go (inl e) = let f = e.1 in (omega arith, omega arith)
    go (inr e) = let f = e.1 in (omega arith, omega arith)

-- v * 2 ^ (g + 52) as m * 2 ^ 52 * 4 ^ (g / 2)
radicand : (v g : ℕ) → v * 2 ^ (g + 52) ≡ v * (1 + g % 2) * 2 ^ 52 * 2 ^ (2 * (g / 2))
radicand v g = go (by_parity v g)
  where
    even : (g : ℕ) → g % 2 ≡ 0 → g + 52 ≡ 52 + 2 * (g / 2)
    even g h = omega arith

    odd : (g : ℕ) → g % 2 ≡ 1 → g + 52 ≡ 53 + 2 * (g / 2)
    odd g h = omega arith

    twice : (v : ℕ) → v * 2 ^ 53 ≡ 2 * v * 2 ^ 52
    twice v = omega arith

    split : (i : ℕ) → g + 52 ≡ i + 2 * (g / 2) → v * 2 ^ (g + 52) ≡ v * 2 ^ i * 2 ^ (2 * (g / 2))
    split i e = ap (λ (x : ℕ). v * 2 ^ x) e ∙ ap (λ (x : ℕ). v * x) (pow-add 2 i (2 * (g / 2))) ∙ sym (mul_assoc v (2 ^ i) (2 ^ (2 * (g / 2))))

    go : ((g % 2 ≡ 0) × (v * (1 + g % 2) ≡ v)) ⊎ ((g % 2 ≡ 1) × (v * (1 + g % 2) ≡ 2 * v)) → v * 2 ^ (g + 52) ≡ v * (1 + g % 2) * 2 ^ 52 * 2 ^ (2 * (g / 2))
    go (inl e) = split 52 (even g e.0) ∙ ap (λ (x : ℕ). x * 2 ^ 52 * 2 ^ (2 * (g / 2))) (sym e.1)
    go (inr e) = split 53 (odd g e.0) ∙ ap (λ (x : ℕ). x * 2 ^ (2 * (g / 2))) (twice v) ∙ ap (λ (x : ℕ). x * 2 ^ 52 * 2 ^ (2 * (g / 2))) (sym e.1)

-- the root r of m * 2 ^ 52 to the nearest whole number has 53 digits, as those of 2 ^ 104 and 2 ^ 106 - 2 ^ 53 have
module _ (v g r : ℕ) (h : Scaled v g) (d : Rounded (v * (1 + g % 2) * 2 ^ 52) r) where
  pub least : 2 ^ 52 ≤ r
  least = let a = scaled_range v g h in rounded_mono (2 ^ 104) (v * (1 + g % 2) * 2 ^ 52) (2 ^ 52) r (omega arith) (record { above = lit≤ tt; below = lit< tt }) d

  pub most : r < 2 ^ 53
  most =
      let a = scaled_range v g h in
      let l = rounded_mono (v * (1 + g % 2) * 2 ^ 52) (2 ^ 106 - 2 ^ 53) r (2 ^ 53 - 1) (omega arith) d (record { above = lit≤ tt; below = lit< tt }) in
      omega arith

  pub scaled_bits : g / 2 * 2 ^ 52 + r ≤ 2047 * 2 ^ 52
  scaled_bits = let l = most in let k = h.high in omega arith

  pub scaled_root : (n : ℕ) → n * 2 ^ 1074 ≡ v * 2 ^ (g + 52) → of_bits binary64 (g / 2 * 2 ^ 52 + r) ≡ root_units n
  scaled_root n w =
      let a = scaled_range v g h in
      units_bits r (g / 2) least most (ex g h.high) ∙ sym (root_core n (v * (1 + g % 2)) (g / 2) r (w ∙ radicand v g) a.0 (omega arith) d)
    where
      ex : (g : ℕ) → g ≤ 3067 → g / 2 ≤ 2045
      ex g h = omega arith

-- ---- below 2 ^ 52: the digits moved up, so that there are 53
pub lead : (b : ℕ) → 0 < b → b < 2 ^ 52 → (j : ℕ) × (count_leading_zeros 64 b + suc j ≡ 64) × (2 ^ j ≤ b) × (b < 2 ^ suc j) × (j < 52)
lead b p h =
    let t = leading_top 64 b p (omega arith) in
    (t.0, t.1, t.2, t.3, lt_of_not-le (λ (g : 52 ≤ t.0). not-le_of_lt h (le_trans (pow_mono g) t.2)))

pub zeros_range : (b : ℕ) → 0 < b → b < 2 ^ 52 → (12 ≤ count_leading_zeros 64 b) × (count_leading_zeros 64 b ≤ 63)
zeros_range b p h = let t = lead b p h in let e = t.1 in let l = t.4 in (omega arith, omega arith)

module _ (b : ℕ) (p : 0 < b) (h : b < 2 ^ 52) where
  shift_is : count_leading_zeros 64 b - 11 ≡ 52 - (lead b p h).0
  shift_is = let t = lead b p h in let e = t.1 in let l = t.4 in omega arith

  full : (j : ℕ) → j < 52 → 2 ^ j * 2 ^ (52 - j) ≡ 2 ^ 52
  full j l = sym (pow-add 2 j (52 - j)) ∙ ap (λ (x : ℕ). 2 ^ x) (go j l)
    where
      go : (j : ℕ) → j < 52 → j + (52 - j) ≡ 52
      go j l = omega arith

  full' : (j : ℕ) → j < 52 → 2 ^ suc j * 2 ^ (52 - j) ≡ 2 ^ 53
  full' j l = sym (pow-add 2 (suc j) (52 - j)) ∙ ap (λ (x : ℕ). 2 ^ x) (go j l)
    where
      go : (j : ℕ) → j < 52 → suc j + (52 - j) ≡ 53
      go j l = omega arith

  moved_ge : 2 ^ 52 ≤ b * 2 ^ (count_leading_zeros 64 b - 11)
  moved_ge =
      let t = lead b p h in
      rw shift_is (le_trans (le_of_eq (sym (full t.0 t.4))) (mul-le-mul_right (2 ^ (52 - t.0)) t.2))

  moved_lt : b * 2 ^ (count_leading_zeros 64 b - 11) < 2 ^ 53
  moved_lt =
      let t = lead b p h in
      rw shift_is (lt_of_lt_of_le (mul-lt-mul_of_pos_right t.3 (pow_pos (52 - t.0))) (le_of_eq (full' t.0 t.4)))

  pub moved : (b * 2 ^ (count_leading_zeros 64 b - 11)) % 2 ^ 64 ≡ b * 2 ^ (count_leading_zeros 64 b - 11)
  moved = mod-eq_of_lt (lt_of_lt_of_le moved_lt (lit≤ tt))

  pub moved_scaled : Scaled ((b * 2 ^ (count_leading_zeros 64 b - 11)) % 2 ^ 64) (1033 - count_leading_zeros 64 b)
  moved_scaled = rw moved (record { least = moved_ge; most = moved_lt; high = ho (count_leading_zeros 64 b) })
    where
      ho : (z : ℕ) → 1033 - z ≤ 3067
      ho z = omega arith

  pub moved_value : bit_units b * 2 ^ 1074 ≡ (b * 2 ^ (count_leading_zeros 64 b - 11)) % 2 ^ 64 * 2 ^ (1033 - count_leading_zeros 64 b + 52)
  moved_value =
      let z = count_leading_zeros 64 b in
      ap (λ (x : ℕ). x * 2 ^ 1074) (units_low b h)
      ∙ ap (λ (x : ℕ). b * 2 ^ x) (go z (zeros_range b p h).0 (zeros_range b p h).1)
      ∙ ap (λ (x : ℕ). b * x) (pow-add 2 (z - 11) (1033 - z + 52))
      ∙ sym (mul_assoc b (2 ^ (z - 11)) (2 ^ (1033 - z + 52)))
      ∙ ap (λ (x : ℕ). x * 2 ^ (1033 - z + 52)) (sym moved)
    where
      go : (z : ℕ) → 12 ≤ z → z ≤ 63 → 1074 ≡ z - 11 + (1033 - z + 52)
      go z a c = omega arith

-- ---- from 2 ^ 52 on
pub normal_scaled : (b : ℕ) → 2 ^ 52 ≤ b → b < 2047 * 2 ^ 52 → Scaled (2 ^ 52 + b % 2 ^ 52) (b / 2 ^ 52 + 1021)
normal_scaled b h k = record { least = omega arith; most = omega arith; high = omega arith }

pub normal_value : (b : ℕ) → 2 ^ 52 ≤ b → bit_units b * 2 ^ 1074 ≡ (2 ^ 52 + b % 2 ^ 52) * 2 ^ (b / 2 ^ 52 + 1021 + 52)
normal_value b h =
    ap (λ (x : ℕ). x * 2 ^ 1074) (units_high b h)
    ∙ mul_assoc (2 ^ 52 + b % 2 ^ 52) (2 ^ (b / 2 ^ 52 - 1)) (2 ^ 1074)
    ∙ ap (λ (x : ℕ). (2 ^ 52 + b % 2 ^ 52) * x) (sym (pow-add 2 (b / 2 ^ 52 - 1) 1074) ∙ ap (λ (x : ℕ). 2 ^ x) (go b h))
  where
    go : (b : ℕ) → 2 ^ 52 ≤ b → b / 2 ^ 52 - 1 + 1074 ≡ b / 2 ^ 52 + 1021 + 52
    go b h = omega arith
