-- `floor_z` is Rust's `as i64` of IEEE 754's floor, and `ceil_z` of its ceiling, for every value of binary64. Assumes nothing.
use Rattle.std.proofs.Common.{◌≡◌, ℕ, suc, ◌-◌, ◌*◌, ◌/◌, ◌^◌, ◌<◌, ◌≤◌, min, Bool, true, false, T, ltb, ℤ, pos, neg_ℤ, sym, refl, ap, ◌∙◌, subst, true≢false, mul-one, mul-div_cancel, arith, ltb-false, ltb-true}
use mathlib.Core.Bool.{false≢true}
use lib.Ieee.{Float, nan, inf, fin, binary64, up, down, round, fits, to_signed}
use lib.Ieee.Fits.{down_pos}
use lib.Ieee.Exact.{HasValue}
use lib.Ieee.Back.{round_whole}
use Rattle.ieee.specs.Whole.{ceil_div, sat, floor_z, ceil_z, floor_f, ceil_f}
use Rattle.ieee.proofs.Tools.{held}
use Rattle.ieee.proofs.Cut.{neg_sat}
use Rattle.ieee.proofs.Floor.{cut_exact, has_rest, no_rest, rest_small}

-- the magnitude rounded up is a value of the format too
up_exact : (t s : Bool) (m : ℕ) (e : ℤ) → T (fits binary64 (fin s m e)) → HasValue (round binary64 t (ceil_div (m * up e) (down e)) 1) t (ceil_div (m * up e) (down e)) 1
up_exact t s m e h = go (ltb (m * up e / down e * down e) (m * up e)) refl
  where
    q : ℕ
    q = m * up e / down e

    fine : (n : ℕ) → n < 2 ^ 53 → suc n ≤ 2 ^ 53
    fine n h = omega arith

    go : (b : Bool) → ltb (m * up e / down e * down e) (m * up e) ≡ b → HasValue (round binary64 t (ceil_div (m * up e) (down e)) 1) t (ceil_div (m * up e) (down e)) 1
    go true k =
        let l = ltb-true (m * up e / down e * down e) (m * up e) k in
        subst (λ (n : ℕ). HasValue (round binary64 t n 1) t n 1) (sym (has_rest (m * up e) (down e) (m * up e / down e) (down_pos e) refl l))
        (round_whole binary64 t (suc (m * up e / down e)) (fine (m * up e / down e) (rest_small m e (held s m e h).0 (m * up e / down e) refl l)))
    go false k =
        subst (λ (n : ℕ). HasValue (round binary64 t n 1) t n 1) (sym (no_rest (m * up e) (down e) (m * up e / down e) (down_pos e) refl (ltb-false (m * up e / down e * down e) (m * up e) k)))
        (cut_exact t s m e h)

-- a whole number's float, as an integer
size_of : (m : ℕ) (e : ℤ) (n : ℕ) → m * up e * 1 ≡ n * down e → m * up e / down e ≡ n
size_of m e n h = ap (λ (x : ℕ). x / down e) (sym (mul-one (m * up e)) ∙ h) ∙ mul-div_cancel n (down_pos e)

cast_pos : (x : Float) (n : ℕ) → HasValue x false n 1 → sat (pos n) ≡ to_signed 63 x
unfolding to_signed
cast_pos nan n v = elim v [ ]
cast_pos (inf _) n v = elim v [ ]
cast_pos (fin true m e) n v = absurd (true≢false v.0)
cast_pos (fin false m e) n v = ap (λ (k : ℕ). pos (min k (2 ^ 63 - 1))) (sym (size_of m e n v.1))

cast_neg : (x : Float) (n : ℕ) → HasValue x true n 1 → sat (neg_ℤ (pos n)) ≡ to_signed 63 x
unfolding to_signed
cast_neg nan n v = elim v [ ]
cast_neg (inf _) n v = elim v [ ]
cast_neg (fin false m e) n v = absurd (false≢true v.0)
cast_neg (fin true m e) n v = neg_sat n ∙ ap (λ (k : ℕ). neg_ℤ (pos (min k (2 ^ 63)))) (sym (size_of m e n v.1))

pub floor_ieee : (x : Float) → T (fits binary64 x) → floor_z x ≡ to_signed 63 (floor_f x)
unfolding floor_z floor_f
floor_ieee nan h = unfold to_signed in refl
floor_ieee (inf true) h = unfold to_signed in refl
floor_ieee (inf false) h = unfold to_signed in refl
floor_ieee (fin true m e) h = cast_neg (round binary64 true (ceil_div (m * up e) (down e)) 1) (ceil_div (m * up e) (down e)) (up_exact true true m e h)
floor_ieee (fin false m e) h = cast_pos (round binary64 false (m * up e / down e) 1) (m * up e / down e) (cut_exact false false m e h)

pub ceil_ieee : (x : Float) → T (fits binary64 x) → ceil_z x ≡ to_signed 63 (ceil_f x)
unfolding ceil_z ceil_f
ceil_ieee nan h = unfold to_signed in refl
ceil_ieee (inf true) h = unfold to_signed in refl
ceil_ieee (inf false) h = unfold to_signed in refl
ceil_ieee (fin true m e) h = cast_neg (round binary64 true (m * up e / down e) 1) (m * up e / down e) (cut_exact true true m e h)
ceil_ieee (fin false m e) h = cast_pos (round binary64 false (ceil_div (m * up e) (down e)) 1) (ceil_div (m * up e) (down e)) (up_exact false false m e h)
