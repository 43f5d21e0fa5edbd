-- Tests as facts, what a value that fits says, and comparisons by value. Assumes nothing.
use Rattle.std.proofs.Common.{◌≡◌, ℕ, zero, suc, ◌+◌, ◌*◌, ◌%◌, ◌^◌, ◌<◌, ◌≤◌, Bool, true, false, not, ◌&&◌, ◌||◌, T, eqb, ltb, leb, ◌⊎◌, ℤ, pos, negsuc, sym, refl, ap, ◌∙◌, subst, inl, inr, ⊎_elim, true≢false, le_trans, le_of_eq, add-mul, lt_of_mul-lt-mul_right, mul-lt-mul_of_pos_right, mul-pos, one-mul, zero-mul, mul-one, mul_right_comm, lit<, eqb→eq, ltb→lt, lt→ltb, leb→le, pow_pos, ltb-false, ltb-true, le-ltb, lt-ltb, le-leb}
use lib.Ieee.{Float, nan, inf, fin, binary64, up, down, lt, below, is_nan, fits}
use lib.Ieee.Fits.{and_l, and_r, down_pos}
use lib.Ieee.Exact.{HasValue}
use borrow.Author.Tests.{lt-leb}

pub same_test : (a b : Bool) → (T a → T b) → (T b → T a) → a ≡ b
same_test true true p q = refl
same_test true false p q = absurd (p tt)
same_test false true p q = absurd (q tt)
same_test false false p q = refl

pub T_true : {b : Bool} → b ≡ true → T b
T_true h = subst T (sym h) tt

pub or_cases : (a b : Bool) → T (a || b) → T a ⊎ T b
or_cases true b t = inl tt
or_cases false b t = inr t

pub lt_or_ge : (a b : ℕ) → (a < b) ⊎ (b ≤ a)
lt_or_ge a b = go (ltb a b) refl
  where
    go : (t : Bool) → ltb a b ≡ t → (a < b) ⊎ (b ≤ a)
    go true h = inl (ltb-true a b h)
    go false h = inr (ltb-false a b h)

pub not_both : {A : Type 0} {b : Bool} → b ≡ true → b ≡ false → A
not_both h k = absurd (true≢false (sym h ∙ k))

-- ---- the tests' negations
pub ltb_not : (a b : ℕ) → ltb a b ≡ not (leb b a)
ltb_not a b = ⊎_elim (λ h. rw (lt-ltb a b h, lt-leb b a h)) (λ h. rw (le-ltb a b h, le-leb b a h)) (lt_or_ge a b)

pub leb_not : (a b : ℕ) → not (ltb b a) ≡ leb a b
leb_not a b = ap not (ltb_not b a) ∙ twice (leb a b)
  where
    twice : (t : Bool) → not (not t) ≡ t
    twice true = refl
    twice false = refl

-- ---- what is above something is a number
pub lt_nan : (x : Float) → lt x nan ≡ false
unfolding lt
lt_nan nan = refl
lt_nan (inf s) = refl
lt_nan (fin s m e) = refl

-- a test that fails at a NaN shows that its operand is none
pub some_by : (x : Float) (t : Bool) → (x ≡ nan → t ≡ false) → t ≡ true → is_nan x ≡ false
unfolding is_nan
some_by nan t f h = not_both h (f refl)
some_by (inf s) t f h = refl
some_by (fin s m e) t f h = refl

pub lt_some_right : (x y : Float) → lt x y ≡ true → is_nan y ≡ false
lt_some_right x y h = some_by y (lt x y) (λ e. ap (λ (z : Float). lt x z) e ∙ lt_nan x) h

pub not_nan : (x : Float) → is_nan x ≡ false → T (not (is_nan x))
not_nan x h = subst (λ (t : Bool). T (not t)) (sym h) tt

-- ---- what `fits binary64` says of a finite value
abbrev pub Held : ℕ → ℤ → Type 0
Held m e = (m < 2 ^ 53) × (m * up e < 2 ^ 1024 * down e) × (down e ≤ 2 ^ 1074)

down_one : (e : ℤ) → up e * down e ≡ 1 → down e ≤ 1
down_one (pos k) h = lit< tt
down_one (negsuc k) h = le_trans (le_of_eq (sym (one-mul (2 ^ suc k)))) (le_of_eq h)

pub held : (s : Bool) (m : ℕ) (e : ℤ) → T (fits binary64 (fin s m e)) → Held m e
unfolding fits
held s zero e t = (
  lit< tt,
  subst (λ (x : ℕ). x < 2 ^ 1024 * down e) (sym (zero-mul (up e))) (mul-pos (pow_pos 1024) (down_pos e)),
  le_trans (down_one e (eqb→eq (up e * down e) 1 t)) (lit< tt),
)
held s (suc m) e t =
    let a : Bool = eqb (suc m % 2) 1 in
    let b : Bool = ltb (suc m) (2 ^ 53) in
    let c : Bool = leb (down e) (2 ^ 1074) in
    let d : Bool = ltb (suc m * up e) (2 ^ 1024 * down e) in (
      ltb→lt (suc m) (2 ^ 53) (and_r a b (and_l (a && b) c (and_l (a && b && c) d t))),
      ltb→lt (suc m * up e) (2 ^ 1024 * down e) (and_r (a && b && c) d t),
      leb→le (down e) (2 ^ 1074) (and_r (a && b) c (and_l (a && b && c) d t)),
    )

-- ---- comparisons by value
pub ltb_scale : (a b k : ℕ) → 0 < k → ltb (a * k) (b * k) ≡ ltb a b
ltb_scale a b k h =
    same_test (ltb (a * k) (b * k)) (ltb a b)
    (λ t. lt→ltb a b (lt_of_mul-lt-mul_right k (ltb→lt (a * k) (b * k) t)))
    (λ t. lt→ltb (a * k) (b * k) (mul-lt-mul_of_pos_right (ltb→lt a b t) h))

pub below_scale : (s : Bool) (a : ℕ) (t : Bool) (b k : ℕ) → 0 < k → below s (a * k) t (b * k) ≡ below s a t b
below_scale false a false b k h = ltb_scale a b k h
below_scale false a true b k h = refl
below_scale true a false b k h =
    ap (λ (x : ℕ). ltb 0 x) (sym (add-mul a b k)) ∙ ap (λ (x : ℕ). ltb x ((a + b) * k)) (sym (zero-mul k)) ∙ ltb_scale 0 (a + b) k h
below_scale true a true b k h = ltb_scale b a k h

-- y is ±b, a whole number: x < y by x's fraction
pub lt_whole : (s : Bool) (m : ℕ) (e : ℤ) (y : Float) (t : Bool) (b : ℕ) → HasValue y t b 1 → lt (fin s m e) y ≡ below s (m * up e) t (b * down e)
unfolding lt
lt_whole s m e nan t b v = elim v [ ]
lt_whole s m e (inf _) t b v = elim v [ ]
lt_whole s m e (fin u n d) t b v =
    ap (λ (x : ℕ). below s (m * up e * down d) u (x * down e)) (sym (mul-one (n * up d)) ∙ v.1)
    ∙ ap (λ (x : ℕ). below s (m * up e * down d) u x) (mul_right_comm b (down d) (down e))
    ∙ ap (λ (x : Bool). below s (m * up e * down d) x (b * down e * down d)) v.0
    ∙ below_scale s (m * up e) t (b * down e) (down d) (down_pos d)

pub whole_lt : (s : Bool) (m : ℕ) (e : ℤ) (y : Float) (t : Bool) (b : ℕ) → HasValue y t b 1 → lt y (fin s m e) ≡ below t (b * down e) s (m * up e)
unfolding lt
whole_lt s m e nan t b v = elim v [ ]
whole_lt s m e (inf _) t b v = elim v [ ]
whole_lt s m e (fin u n d) t b v =
    ap (λ (x : ℕ). below u (x * down e) s (m * up e * down d)) (sym (mul-one (n * up d)) ∙ v.1)
    ∙ ap (λ (x : ℕ). below u x s (m * up e * down d)) (mul_right_comm b (down d) (down e))
    ∙ ap (λ (x : Bool). below x (b * down e * down d) s (m * up e * down d)) v.0
    ∙ below_scale t (b * down e) s (m * up e) (down d) (down_pos d)
