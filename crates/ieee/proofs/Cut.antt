-- A float cut to an i64: what floor and ceiling need of the cut. Assumes nothing.
use Rattle.std.proofs.Common.{◌≡◌, ℕ, zero, suc, ◌-◌, ◌*◌, ◌/◌, ◌^◌, ◌<◌, ◌≤◌, min, Bool, true, false, not, ltb, ℤ, pos, neg_ℤ, sym, refl, ap, ◌∙◌, arith, w64, to_z, of_z}
use lib.Ieee.{Float, fin, up, down, lt, to_signed}
use lib.Ieee.Casts.{to_signed_in}
use mir.ValLaws.{to_z-of_z}
use Rattle.ieee.specs.Whole.{sat, sat_inf}
use Rattle.ieee.proofs.Tools.{lt_whole, whole_lt}

-- ---- ±q, and ±q brought to the range
abbrev pub signed : Bool → ℕ → ℤ
signed true q = neg_ℤ (pos q)
signed false q = pos q

pub neg_sat : (q : ℕ) → sat (neg_ℤ (pos q)) ≡ neg_ℤ (pos (min q (2 ^ 63)))
neg_sat zero = refl
neg_sat (suc q) = let h : suc (min q (2 ^ 63 - 1)) ≡ min (suc q) (2 ^ 63) = omega arith in ap (signed true) h

pub sat_within : (s : Bool) (q : ℕ) → q < 2 ^ 63 → sat (signed s q) ≡ signed s q
sat_within true q h = let k : min q (2 ^ 63) ≡ q = omega arith in neg_sat q ∙ ap (signed true) k
sat_within false q h = let k : min q (2 ^ 63 - 1) ≡ q = omega arith in ap pos k

pub sat_far : (s : Bool) (q : ℕ) → 2 ^ 63 ≤ q → sat (signed s q) ≡ sat_inf s
sat_far true q h = let k : min q (2 ^ 63) ≡ 2 ^ 63 = omega arith in neg_sat q ∙ ap (signed true) k
sat_far false q h = let k : min q (2 ^ 63 - 1) ≡ 2 ^ 63 - 1 = omega arith in ap pos k

-- `to_signed` brings to the range as `sat` does
pub cut_sat : (s : Bool) (m : ℕ) (e : ℤ) → to_signed 63 (fin s m e) ≡ sat (signed s (m * up e / down e))
unfolding to_signed
cut_sat true m e = sym (neg_sat (m * up e / down e))
cut_sat false m e = refl

-- the cut as the machine holds it
pub stored : (x : Float) {z : ℤ} → z ≡ to_signed 63 x → to_z w64 (of_z w64 z) ≡ to_signed 63 x
stored x h = rw h (to_z-of_z w64 (to_signed 63 x) (record { sfits = to_signed_in 63 x }))

-- ---- the range's two ends, -2 ^ 63 (true) and 2 ^ 63 (false), as floats
abbrev pub edge : Bool → Float
edge s = fin s 1 (pos 63)

-- x lies past y, on the side below it (true) or above it (false)
abbrev pub past : Bool → Float → Float → Bool
past true x y = lt x y
past false x y = lt y x

-- a value of the end's sign against it, by the value's fraction
pub edge_test : (s : Bool) (m : ℕ) (e : ℤ) → past (not s) (fin s m e) (edge s) ≡ ltb (m * up e) (2 ^ 63 * down e)
edge_test true m e = whole_lt true m e (edge true) true (2 ^ 63) (refl, refl)
edge_test false m e = lt_whole false m e (edge false) false (2 ^ 63) (refl, refl)
