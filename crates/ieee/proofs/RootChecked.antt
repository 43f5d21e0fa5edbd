-- A candidate for the root of n to the nearest whole number, checked by what n is above its square; and the same root from one binary digit more. Assumes nothing.
use Rattle.std.proofs.Common.{◌≡◌, ℕ, zero, suc, ◌+◌, ◌-◌, ◌*◌, ◌/◌, ◌%◌, ◌^◌, ◌<◌, ◌≤◌, ◌⊎◌, sym, refl, ap, ◌∙◌, inl, inr, ⊎_elim, le_refl, lt_of_le_of_lt, mul-le-mul_right, mul_assoc, mul_comm, add-mul, eq-zero-or-pos, mul-le-mul, le_antisymm, mul-le-mul_left, lt_of_not-le, mul-add, arith}
use native.Mathlib.Nat.{mul-mul-mul_comm}
use Rattle.ieee.specs.Root.{Rooted, isqrt}
use Rattle.ieee.specs.RootSteps.{Rounded}
use Rattle.ieee.proofs.Tools.{lt_or_ge}
use Rattle.ieee.proofs.Squares.{sq_next, sq_double, isqrt_law}

-- ---- by the excess f of n over c's square
pub rounded_at : (n c f : ℕ) → 0 < n → c * c + f ≡ n → f ≤ c → Rounded n c
rounded_at n c f p e h = record { above = omega arith; below = lt c (c * c) f p e h sq }
  where
    sq : c ≡ 0 → c * c ≡ 0
    sq z = ap (λ (x : ℕ). x * x) z

    lt : (c s f : ℕ) → 0 < n → s + f ≡ n → f ≤ c → (c ≡ 0 → s ≡ 0) → s < n + c
    lt c s f p e h z = elim (eq-zero-or-pos c) [ inl k ↦ let w = z k in omega arith | inr k ↦ omega arith ]

pub rounded_next : (n c f : ℕ) → c * c + f ≡ n → c < f → f ≤ c * 3 + 2 → Rounded n (c + 1)
rounded_next n c f e h k = let s = sq_next c in record { above = omega arith; below = omega arith }

pub rounded_second : (n c f : ℕ) → c * c + f ≡ n → c * 3 + 2 < f → f ≤ c * 5 + 6 → Rounded n (c + 1 + 1)
rounded_second n c f e h k = let s = sq_next (c + 1) in let t = sq_next c in record { above = omega arith; below = omega arith }

-- ---- the excess in 64 bits
pub prod_lt : (a b : ℕ) → a < 2 ^ 27 → b < 2 ^ 27 → a * b < 2 ^ 54
prod_lt a b h k = lt_of_le_of_lt (mul-le-mul (less a h) (less b k)) (omega arith)
  where
    less : (a : ℕ) → a < 2 ^ 27 → a ≤ 2 ^ 27 - 1
    less a h = omega arith

pub low : (c : ℕ) → c % 67108864 < 2 ^ 27
low c = omega arith

pub high : (c : ℕ) → c < 2 ^ 53 → c / 67108864 < 2 ^ 27
high c h = omega arith

-- the square of a * 2 ^ 26 + b
square : (a b : ℕ) → (a * 2 ^ 26 + b) * (a * 2 ^ 26 + b) ≡ a * a * 2 ^ 52 + a * b * 2 ^ 27 + b * b
square a b =
    mul-add (a * 2 ^ 26 + b) (a * 2 ^ 26) b
    ∙ ap (λ (x : ℕ). x + (a * 2 ^ 26 + b) * b) (add-mul (a * 2 ^ 26) b (a * 2 ^ 26))
    ∙ ap (λ (x : ℕ). a * 2 ^ 26 * (a * 2 ^ 26) + b * (a * 2 ^ 26) + x) (add-mul (a * 2 ^ 26) b b)
    ∙ join (a * 2 ^ 26 * (a * 2 ^ 26)) (b * (a * 2 ^ 26)) (a * 2 ^ 26 * b) (b * b) (a * a) (a * b) (mul-mul-mul_comm a (2 ^ 26) a (2 ^ 26)) (mul_comm b (a * 2 ^ 26) ∙ cross) cross
  where
    cross : a * 2 ^ 26 * b ≡ a * b * 2 ^ 26
    cross = mul_assoc a (2 ^ 26) b ∙ ap (λ (x : ℕ). a * x) (mul_comm (2 ^ 26) b) ∙ sym (mul_assoc a b (2 ^ 26))

    join : (p q r s x y : ℕ) → p ≡ x * 2 ^ 52 → q ≡ y * 2 ^ 26 → r ≡ y * 2 ^ 26 → p + q + (r + s) ≡ x * 2 ^ 52 + y * 2 ^ 27 + s
    join p q r s x y e f g = omega arith

-- what m * 2 ^ 52 is above the square of c, as the code has it: each difference wraps, and its bound says that it did not
pub excess_is : (m c d e f : ℕ) → let a = c / 67108864 in let b = c % 67108864 in c < 2 ^ 53 → d < 2 ^ 36 → e < 2 ^ 36 → f < 2 ^ 63
    → (d + a * a) % 2 ^ 64 ≡ m → (e + a * b) % 2 ^ 64 ≡ d * 33554432 → (f + b * b) % 2 ^ 64 ≡ e * 134217728 → c * c + f ≡ m * 2 ^ 52
excess_is m c d e f h i j k p q r =
    let a = c / 67108864 in
    let b = c % 67108864 in
    let w : c * c ≡ a * a * 2 ^ 52 + a * b * 2 ^ 27 + b * b = ap (λ (x : ℕ). x * x) (whole c) ∙ square a b in
    go (c * c) (a * a) (a * b) (b * b) w (prod_lt a a (high c h) (high c h)) (prod_lt a b (high c h) (low c)) (prod_lt b b (low c) (low c)) p q r
  where
    whole : (c : ℕ) → c ≡ c / 67108864 * 2 ^ 26 + c % 67108864
    whole c = omega arith

    go : (x u v w : ℕ) → x ≡ u * 2 ^ 52 + v * 2 ^ 27 + w → u < 2 ^ 54 → v < 2 ^ 54 → w < 2 ^ 54
        → (d + u) % 2 ^ 64 ≡ m → (e + v) % 2 ^ 64 ≡ d * 33554432 → (f + w) % 2 ^ 64 ≡ e * 134217728 → x + f ≡ m * 2 ^ 52
    go x u v w s l n o p q r = omega arith

-- ---- from the root's whole part of 4 n, which has one binary digit more
halves : (s : ℕ) → (s ≡ 2 * ((s + 1) / 2)) ⊎ (s + 1 ≡ 2 * ((s + 1) / 2))
halves s = go (s % 2) refl
  where
    even : (s : ℕ) → s % 2 ≡ 0 → s ≡ 2 * ((s + 1) / 2)
    even s h = omega arith

    odd : (s k : ℕ) → s % 2 ≡ suc k → s + 1 ≡ 2 * ((s + 1) / 2)
    odd s k h = omega arith

    go : (d : ℕ) → s % 2 ≡ d → (s ≡ 2 * ((s + 1) / 2)) ⊎ (s + 1 ≡ 2 * ((s + 1) / 2))
    go zero h = inl (even s h)
    go (suc k) h = inr (odd s k h)

pub rounded_half : (n s : ℕ) → 0 < n → Rooted (n * 4) s → Rounded n ((s + 1) / 2)
rounded_half n s p h = elim (halves s) [ inl e ↦ even ((s + 1) / 2) e | inr e ↦ odd ((s + 1) / 2) e ]
  where
    even : (r : ℕ) → s ≡ 2 * r → Rounded n r
    even r e =
        let a : s * s ≡ 4 * (r * r) = ap (λ (x : ℕ). x * x) e ∙ sq_double r in
        let b = sq_next s in
        let l = h.0 in
        let g = h.1 in
        rounded_at n r (n - r * r) p (omega arith) (omega arith)

    odd : (r : ℕ) → s + 1 ≡ 2 * r → Rounded n r
    odd r e =
        let a : (s + 1) * (s + 1) ≡ 4 * (r * r) = ap (λ (x : ℕ). x * x) e ∙ sq_double r in
        let b = sq_next s in
        let l = h.0 in
        let g = h.1 in record { above = omega arith; below = omega arith }

pub rounded_slow : (m s : ℕ) → 0 < m → Rooted (m * 2 ^ 54) s → Rounded (m * 2 ^ 52) ((s + 1) / 2)
rounded_slow m s p h = rounded_half (m * 2 ^ 52) s (omega arith) (rw four h)
  where
    four : m * 2 ^ 52 * 4 ≡ m * 2 ^ 54
    four = omega arith

-- ---- a larger number has no smaller rounded root, so each number has one at most
pub rounded_mono : (n k q r : ℕ) → n ≤ k → Rounded n q → Rounded k r → q ≤ r
rounded_mono n k q r l h g = let m = lt_of_not-le clash in omega arith
  where
    clash : r + 1 ≤ q → ⊥
    clash o =
        let a = mul-le-mul_left q o in
        let b = mul-le-mul_right r o in
        let c = mul-add q r 1 in
        let d = add-mul r 1 r in
        let e = h.below in
        let f = g.above in
        omega arith

pub rounded_one : (n q r : ℕ) → Rounded n q → Rounded n r → q ≡ r
rounded_one n q r h k = le_antisymm (rounded_mono n n q r (le_refl n) h k) (rounded_mono n n r q (le_refl n) k h)

-- and it has one: the root's whole part, or the next number where n is past the middle
abbrev pub Side : ℕ → ℕ → Type 0
Side n q = ((n ≤ q * q + q) × Rounded n q) ⊎ ((q * q + q < n) × Rounded n (q + 1))

pub side : (n : ℕ) → 0 < n → Side n (isqrt n)
side n p = let h = isqrt_law n in go (isqrt n) h.0 h.1
  where
    go : (q : ℕ) → q * q ≤ n → n < (q + 1) * (q + 1) → Side n q
    go q l g =
        ⊎_elim
        (λ o. inr (o, let s = sq_next q in rounded_next n q (n - q * q) (omega arith) (omega arith) (omega arith)))
        (λ o. inl (o, rounded_at n q (n - q * q) p (omega arith) (omega arith)))
        (lt_or_ge (q * q + q) n)

pub rounded_root : (n : ℕ) → 0 < n → (r : ℕ) × Rounded n r
rounded_root n p = ⊎_elim (λ s. (isqrt n, s.1)) (λ s. (isqrt n + 1, s.1)) (side n p)
