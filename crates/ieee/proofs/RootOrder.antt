-- The root keeps the order: on bit patterns up to the infinity's it is a function that does not fall, and so of two values the larger has no smaller root. Assumes nothing.
use Rattle.std.proofs.Common.{◌≡◌, ℕ, zero, suc, ◌+◌, ◌-◌, ◌*◌, ◌/◌, ◌%◌, ◌^◌, ◌<◌, ◌≤◌, Bool, true, false, cond, not, T, eqb, ◌⊎◌, pos, sym, refl, ap, ◌∙◌, subst, inl, inr, ⊎_elim, true≢false, zero-le, le_trans, le_of_eq, le_refl, lt_of_le_of_lt, le_of_lt, mul-le-mul_right, eq-zero-or-pos, eq-or-lt_of_le, mul-pos, zero-mul, not-le_of_lt, le_of_mul-le-mul_right, mul-div_cancel, arith, pow_pos, le-leb, leb-true}
use lib.Dec.{eqb-suc-zero}
use lib.Count.{count_leading_zeros}
use lib.Ieee.{Float, nan, inf, fin, binary64, up, down, lt, le, is_nan, fits, of_bits, to_bits}
use lib.Ieee.Fits.{down_pos, nan-fits, cond-fits, inf-fits}
use lib.Ieee.Bits.{of_bits-to_bits, of_bits-fits, to_bits-of_bits}
use lib.Ieee.Exact.{HasValue}
use Rattle.ieee.specs.Constants.{nought}
use Rattle.ieee.specs.Root.{root_units, root_f}
use Rattle.ieee.specs.RootSteps.{Scaled, Rounded, bit_units}
use Rattle.ieee.proofs.Tools.{lt_or_ge}
use Rattle.ieee.proofs.RootChecked.{rounded_mono, rounded_root}
use Rattle.ieee.proofs.RootBits.{bits_value, bits_under}
use Rattle.ieee.proofs.RootScaled.{by_parity, scaled_range, least, most, scaled_root, scaled_bits, moved_scaled, moved_value, normal_scaled, normal_value}
use Rattle.ieee.proofs.Patterns.{moved_less, units_lt, units_mono, some_value, Like, le_like, bits_like, minus_like, Shape, no_number, minus_zero, pattern, shape, le_some_left, le_some_right, up_from_zero}

-- ---- the root's pattern
-- bit_units b as v * 2 ^ (g + 52) squared units, and the root r to the nearest whole number that `root_scaled` takes
record Parts (b : ℕ) : Type 0 where
  v : ℕ
  g : ℕ
  r : ℕ
  scaled : Scaled v g
  rounded : Rounded (v * (1 + g % 2) * 2 ^ 52) r
  value : bit_units b * 2 ^ 1074 ≡ v * 2 ^ (g + 52)

made : (b v g : ℕ) → Scaled v g → bit_units b * 2 ^ 1074 ≡ v * 2 ^ (g + 52) → Parts b
made b v g h e =
    let a = scaled_range v g h in
    let w = rounded_root (v * (1 + g % 2) * 2 ^ 52) (omega arith) in
    record { v = v; g = g; r = w.0; scaled = h; rounded = w.1; value = e }

parts : (b : ℕ) → 0 < b → b < 2047 * 2 ^ 52 → Parts b
parts b p h =
    ⊎_elim
    (λ l. made b ((b * 2 ^ (count_leading_zeros 64 b - 11)) % 2 ^ 64) (1033 - count_leading_zeros 64 b) (moved_scaled b p l) (moved_value b p l))
    (λ l. made b (2 ^ 52 + b % 2 ^ 52) (b / 2 ^ 52 + 1021) (normal_scaled b l h) (normal_value b l))
    (lt_or_ge b (2 ^ 52))

abbrev joined : (b : ℕ) → Parts b → ℕ
joined b p = p.g / 2 * 2 ^ 52 + p.r

joined_le : (b : ℕ) (p : Parts b) → joined b p ≤ 2047 * 2 ^ 52
joined_le b p = scaled_bits p.v p.g p.r p.scaled p.rounded

-- a value of a units above zero has the root of a units
value_root : (x : Float) (a : ℕ) → 0 < a → HasValue x false a (2 ^ 1074) → root_f x ≡ root_units a
unfolding root_f
value_root nan a A v = absurd v
value_root (inf s) a A v = absurd v
value_root (fin true m e) a A v = absurd (true≢false v.0)
value_root (fin false zero e) a A v = absurd (none (a * down e) (ap (λ (x : ℕ). x * 2 ^ 1074) (sym (zero-mul (up e))) ∙ v.1) (mul-pos A (down_pos e)))
  where
    none : (y : ℕ) → 0 ≡ y → 0 < y → ⊥
    none y h k = omega arith
value_root (fin false (suc m) e) a A v =
    ap (λ (t : Bool). cond t (fin false (suc m) e) (root_units (suc m * up e * 2 ^ 1074 / down e))) (eqb-suc-zero m)
    ∙ ap root_units (ap (λ (x : ℕ). x / down e) v.1 ∙ mul-div_cancel a (down_pos e))

joined_root : (b : ℕ) → 0 < b → b < 2047 * 2 ^ 52 → (p : Parts b) → root_f (of_bits binary64 b) ≡ of_bits binary64 (joined b p)
joined_root b B h p =
    value_root (of_bits binary64 b) (bit_units b) (lt_of_le_of_lt zero-le (units_lt 0 b B)) (bits_value b h) ∙ sym (scaled_root p.v p.g p.r p.scaled p.rounded (bit_units b) p.value)

-- ---- two such numbers in order: the exponent's half is larger, or it is the same and the number whose root is taken is no smaller
abbrev Level : ℕ → ℕ → ℕ → ℕ → Type 0
Level v g w k = (g / 2 ≡ k / 2) × (v * (1 + g % 2) ≤ w * (1 + k % 2))

scaled_order : (v g w k : ℕ) → Scaled v g → Scaled w k → v * 2 ^ (g + 52) ≤ w * 2 ^ (k + 52) → (g / 2 < k / 2) ⊎ Level v g w k
scaled_order v g w k p q h = ⊎_elim less (λ l. inr (⊎_elim same more (eq-or-lt_of_le l))) (lt_or_ge g k)
  where
    more : k < g → Level v g w k
    more l = absurd (not-le_of_lt (moved_less w v (k + 52) (g + 52) q.most p.least (omega arith)) h)

    same : k ≡ g → Level v g w k
    same e = (
      ap (λ (x : ℕ). x / 2) (sym e),
      subst (λ (x : ℕ). v * (1 + g % 2) ≤ w * (1 + x % 2)) (sym e) (mul-le-mul_right (1 + g % 2) (le_of_mul-le-mul_right (subst (λ (x : ℕ). v * 2 ^ (g + 52) ≤ w * 2 ^ (x + 52)) e h) (pow_pos (g + 52)))),
    )

    less : g < k → (g / 2 < k / 2) ⊎ Level v g w k
    less l = ⊎_elim inl (λ r. inr (by r (by_parity v g) (by_parity w k))) (lt_or_ge (g / 2) (k / 2))
      where
        by : k / 2 ≤ g / 2 → ((g % 2 ≡ 0) × (v * (1 + g % 2) ≡ v)) ⊎ ((g % 2 ≡ 1) × (v * (1 + g % 2) ≡ 2 * v)) → ((k % 2 ≡ 0) × (w * (1 + k % 2) ≡ w)) ⊎ ((k % 2 ≡ 1) × (w * (1 + k % 2) ≡ 2 * w)) → Level v g w k
        by r (inl a) (inl b) = absurd (let x = a.0 in let y = b.0 in omega arith)
        by r (inl a) (inr b) = let x = a.1 in let y = b.1 in let m = p.most in let n = q.least in (omega arith, omega arith)
        by r (inr a) (inl b) = absurd (let x = a.0 in let y = b.0 in omega arith)
        by r (inr a) (inr b) = absurd (let x = a.0 in let y = b.0 in omega arith)

joined_mono : (b c : ℕ) (p : Parts b) (q : Parts c) → b ≤ c → joined b p ≤ joined c q
joined_mono b c p q h =
    ⊎_elim
    (λ l. apart (p.g / 2) (q.g / 2) p.r q.r l (most p.v p.g p.r p.scaled p.rounded) (least q.v q.g q.r q.scaled q.rounded))
    (λ e.
    level (p.g / 2) (q.g / 2) p.r q.r e.0
    (rounded_mono (p.v * (1 + p.g % 2) * 2 ^ 52) (q.v * (1 + q.g % 2) * 2 ^ 52) p.r q.r (mul-le-mul_right (2 ^ 52) e.1) p.rounded q.rounded))
    (scaled_order p.v p.g q.v q.g p.scaled q.scaled (le_trans (le_of_eq (sym p.value)) (le_trans (mul-le-mul_right (2 ^ 1074) (units_mono b c h)) (le_of_eq q.value))))
  where
    apart : (i j s t : ℕ) → i < j → s < 2 ^ 53 → 2 ^ 52 ≤ t → i * 2 ^ 52 + s ≤ j * 2 ^ 52 + t
    apart i j s t l a b = omega arith

    level : (i j s t : ℕ) → i ≡ j → s ≤ t → i * 2 ^ 52 + s ≤ j * 2 ^ 52 + t
    level i j s t e l = omega arith

-- ---- the root as a function on patterns, which does not fall
unfoldable pub root_bits : ℕ → ℕ
unfolding to_bits root_f of_bits
root_bits n = to_bits binary64 (root_f (of_bits binary64 n))

bits_are : (n r : ℕ) → r ≤ 2047 * 2 ^ 52 → root_f (of_bits binary64 n) ≡ of_bits binary64 r → root_bits n ≡ r
unfolding root_bits
bits_are n r h e = ap (to_bits binary64) e ∙ to_bits-of_bits binary64 r (omega arith) (subst (λ (t : Bool). T (not t)) (sym (some_value r h)) tt)

pub zero_root : root_f (of_bits binary64 0) ≡ of_bits binary64 0
unfolding root_f of_bits
zero_root = refl

pub top_root : root_f (of_bits binary64 (2047 * 2 ^ 52)) ≡ of_bits binary64 (2047 * 2 ^ 52)
unfolding root_f of_bits
top_root = refl

-- a pattern is 0, the infinity's, or between
abbrev Three : ℕ → Type 0
Three n = (n ≡ 0) ⊎ ((n ≡ 2047 * 2 ^ 52) ⊎ ((0 < n) × (n < 2047 * 2 ^ 52)))

three : (n : ℕ) → n ≤ 2047 * 2 ^ 52 → Three n
three n h = ⊎_elim inl (λ p. inr (⊎_elim inl (λ l. inr (p, l)) (eq-or-lt_of_le h))) (eq-zero-or-pos n)

pub root_pattern : (n : ℕ) → n ≤ 2047 * 2 ^ 52 → (root_bits n ≤ 2047 * 2 ^ 52) × (root_f (of_bits binary64 n) ≡ of_bits binary64 (root_bits n))
root_pattern n h = go (three n h)
  where
    at : (r : ℕ) → r ≤ 2047 * 2 ^ 52 → root_f (of_bits binary64 n) ≡ of_bits binary64 r → (root_bits n ≤ 2047 * 2 ^ 52) × (root_f (of_bits binary64 n) ≡ of_bits binary64 (root_bits n))
    at r l e = (le_trans (le_of_eq (bits_are n r l e)) l, e ∙ ap (of_bits binary64) (sym (bits_are n r l e)))

    go : Three n → (root_bits n ≤ 2047 * 2 ^ 52) × (root_f (of_bits binary64 n) ≡ of_bits binary64 (root_bits n))
    go (inl e) = at 0 zero-le (ap (λ (k : ℕ). root_f (of_bits binary64 k)) e ∙ zero_root)
    go (inr (inl e)) = at (2047 * 2 ^ 52) (le_refl (2047 * 2 ^ 52)) (ap (λ (k : ℕ). root_f (of_bits binary64 k)) e ∙ top_root)
    go (inr (inr r)) = let p = parts n r.0 r.1 in at (joined n p) (joined_le n p) (joined_root n r.0 r.1 p)

pub root_bits_mono : (n k : ℕ) → n ≤ k → k ≤ 2047 * 2 ^ 52 → root_bits n ≤ root_bits k
root_bits_mono n k h l = go (three n (le_trans h l)) (three k l)
  where
    clash : 0 < n → k ≡ 0 → ⊥
    clash p e = omega arith

    is_top : n ≡ 2047 * 2 ^ 52 → n ≡ k
    is_top e = omega arith

    go : Three n → Three k → root_bits n ≤ root_bits k
    go (inl e) w = le_trans (le_of_eq (ap root_bits e ∙ bits_are 0 0 zero-le zero_root)) zero-le
    go (inr (inl e)) w = le_of_eq (ap root_bits (is_top e))
    go (inr (inr r)) (inl e) = absurd (clash r.0 e)
    go (inr (inr r)) (inr (inl e)) = le_trans (root_pattern n (le_trans h l)).0 (le_of_eq (sym (ap root_bits e ∙ bits_are (2047 * 2 ^ 52) (2047 * 2 ^ 52) (le_refl (2047 * 2 ^ 52)) top_root)))
    go (inr (inr r)) (inr (inr t)) =
        let p = parts n r.0 r.1 in
        let q = parts k t.0 t.1 in
        le_trans (le_of_eq (bits_are n (joined n p) (joined_le n p) (joined_root n r.0 r.1 p)))
        (le_trans (joined_mono n k p q h) (le_of_eq (sym (bits_are k (joined k q) (joined_le k q) (joined_root k t.0 t.1 q)))))

-- ---- the root of a value that is not below zero compares as the root's pattern does
pub record Rank (q : Float) (n : ℕ) : Type 0 where
  pub value : Like q n
  pub root : Like (root_f q) (root_bits n)

pub rank_bits : (n : ℕ) → n ≤ 2047 * 2 ^ 52 → Rank (of_bits binary64 n) n
rank_bits n h = let r = root_pattern n h in record { value = bits_like n h; root = subst (λ (x : Float). Like x (root_bits n)) (sym r.1) (bits_like (root_bits n) r.0) }

minus_root : root_f (fin true 0 (pos 0)) ≡ fin true 0 (pos 0)
unfolding root_f
minus_root = refl

rank_minus : Rank (fin true 0 (pos 0)) 0
rank_minus = record { value = minus_like; root = subst (λ (x : Float). Like x (root_bits 0)) (sym minus_root) (subst (Like (fin true 0 (pos 0))) (sym (bits_are 0 0 zero-le zero_root)) minus_like) }

pub rank : (q : Float) → T (fits binary64 q) → lt q nought ≡ false → (q ≡ nan) ⊎ ((n : ℕ) × Rank q n)
rank q t h = go (shape q t h)
  where
    go : Shape q → (q ≡ nan) ⊎ ((n : ℕ) × Rank q n)
    go (no_number e) = inl e
    go (minus_zero e) = inr (0, subst (λ (x : Float). Rank x 0) (sym e) rank_minus)
    go (pattern n l e) = inr (n, subst (λ (x : Float). Rank x n) (sym e) (rank_bits n l))

pub rank_some : (q : Float) → T (fits binary64 q) → lt q nought ≡ false → is_nan q ≡ false → (n : ℕ) × Rank q n
unfolding is_nan
rank_some q t h k = ⊎_elim (λ e. absurd (true≢false (ap is_nan (sym e) ∙ k))) (λ r. r) (rank q t h)

-- ---- of two values, the first not below zero and at most the second, the first has a root that is at most the second's
pub root_mono : (p q : Float) → T (fits binary64 p) → T (fits binary64 q) → lt p nought ≡ false → le p q ≡ true → le (root_f p) (root_f q) ≡ true
root_mono p q s t h k =
    let a = rank_some p s h (le_some_left p q k) in
    let b = rank_some q t (up_from_zero p q s h k) (le_some_right p q k) in
    let l : a.0 ≤ b.0 = leb-true a.0 b.0 (sym (le_like p q a.0 b.0 a.1.value b.1.value) ∙ k) in
    le_like (root_f p) (root_f q) (root_bits a.0) (root_bits b.0) a.1.root b.1.root
    ∙ le-leb (root_bits a.0) (root_bits b.0) (root_bits_mono a.0 b.0 l b.1.value.range)

-- ---- the root of a value that the format holds is one too
pub root_fits : (x : Float) → T (fits binary64 x) → T (fits binary64 (root_f x))
root_fits nan t = unfold root_f in nan-fits binary64
root_fits (inf s) t = unfold root_f in cond-fits binary64 s nan (inf false) (nan-fits binary64) (inf-fits binary64 false)
root_fits (fin s zero e) t = unfold root_f in t
root_fits (fin true (suc m) e) t = unfold root_f in cond-fits binary64 (eqb (suc m) 0) (fin true (suc m) e) nan t (nan-fits binary64)
root_fits (fin false (suc m) e) t =
    let b = to_bits binary64 (fin false (suc m) e) in
    let r = root_pattern b (le_of_lt (bits_under (suc m) e t)) in
    subst (λ (x : Float). T (fits binary64 x)) (sym (ap root_f (sym (of_bits-to_bits binary64 (fin false (suc m) e) t)) ∙ r.1)) (of_bits-fits binary64 (root_bits b))
