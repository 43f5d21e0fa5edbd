-- Bit patterns keep the order: up to the infinity's, 2047 * 2 ^ 52, two values compare as their patterns do. A value that is not below zero compares as such a
-- pattern's value does, -0 as +0. Assumes nothing.
use Rattle.std.proofs.Common.{◌≡◌, ℕ, zero, suc, ◌+◌, ◌-◌, ◌*◌, ◌/◌, ◌%◌, ◌^◌, ◌<◌, ◌≤◌, Bool, true, false, not, ◌&&◌, ◌||◌, T, eqb, ltb, leb, ℤ, pos, sym, refl, ap, ◌∙◌, subst, ⊎_elim, true≢false, zero-le, le_trans, le_of_eq, lt_of_lt_of_le, add-zero, le_of_lt, mul-le-mul_right, mul_assoc, mul_comm, eq-or-lt_of_le, mul-le-mul_left, mul-lt-mul_of_pos_right, mul-pos, zero-add, zero-mul, mul-one, mul_right_comm, arith, lit≤, eqb→eq, pow_pos, pow_mono, pow-add, ltb-true, le-ltb, lt-ltb, eq-eqb, leb-true}
use mathlib.Core.Bool.{and-false, false≢true}
use lib.Dec.{eqb-zero-suc, eqb-suc-zero}
use lib.Ieee.{Float, nan, inf, fin, binary64, up, down, lt, eq, le, is_nan, fits, of_bits, to_bits, nan_bits}
use lib.Ieee.Fits.{down_pos}
use lib.Ieee.Bits.{is_false, of_bits-to_bits, nan_bits_is}
use lib.Ieee.Exact.{HasValue}
use borrow.Author.Tests.{not-true}
use Rattle.ieee.specs.Constants.{nought}
use Rattle.ieee.specs.RootSteps.{bit_units}
use Rattle.ieee.proofs.Tools.{same_test, lt_or_ge, leb_not, some_by, not_both, T_true, ltb_scale}
use Rattle.ieee.proofs.Compare.{both_pos}
use Rattle.ieee.proofs.RootBits.{units_low, units_high, bits_value, bits_under, no_nan_bits}
use Rattle.ieee.proofs.Signs.{not_below, is_below, zero_exp}

-- ---- the number of units grows with the pattern
-- of two numbers with 53 digits before their shifts, the one that is moved less is below
pub moved_less : (x y i j : ℕ) → x < 2 ^ 53 → 2 ^ 52 ≤ y → i < j → x * 2 ^ i < y * 2 ^ j
moved_less x y i j h k l =
    lt_of_lt_of_le (mul-lt-mul_of_pos_right h (pow_pos i))
    (le_trans (le_of_eq (sym (pow-add 2 53 i)))
    (le_trans (pow_mono (room i j l))
    (le_trans (le_of_eq (pow-add 2 52 j)) (mul-le-mul_right (2 ^ j) k))))
  where
    room : (i j : ℕ) → i < j → 53 + i ≤ 52 + j
    room i j l = omega arith

pub units_lt : (a b : ℕ) → a < b → bit_units a < bit_units b
units_lt a b h = ⊎_elim low high (lt_or_ge b (2 ^ 52))
  where
    low : b < 2 ^ 52 → bit_units a < bit_units b
    low k = rw (units_low a (omega arith), units_low b k) h

    apart : 2 ^ 52 ≤ b → a < 2 ^ 52 → bit_units a < bit_units b
    apart k l =
        rw (units_low a l, units_high b k)
        (lt_of_lt_of_le l (le_trans (room b) (grown (2 ^ 52 + b % 2 ^ 52) (2 ^ (b / 2 ^ 52 - 1)) (pow_pos (b / 2 ^ 52 - 1)))))
      where
        room : (b : ℕ) → 2 ^ 52 ≤ 2 ^ 52 + b % 2 ^ 52
        room b = omega arith

        grown : (x p : ℕ) → 0 < p → x ≤ x * p
        grown x p P = le_trans (le_of_eq (sym (mul-one x))) (mul-le-mul_left x P)

    same : (a b i j : ℕ) → i ≡ j → a < b → a * 2 ^ i < b * 2 ^ j
    same a b i j e l = rw e (mul-lt-mul_of_pos_right l (pow_pos j))

    both : 2 ^ 52 ≤ b → 2 ^ 52 ≤ a → bit_units a < bit_units b
    both k l =
        rw (units_high a l, units_high b k)
        (⊎_elim
        (λ (e : a / 2 ^ 52 - 1 ≡ b / 2 ^ 52 - 1). same (2 ^ 52 + a % 2 ^ 52) (2 ^ 52 + b % 2 ^ 52) (a / 2 ^ 52 - 1) (b / 2 ^ 52 - 1) e (omega arith))
        (λ (g : a / 2 ^ 52 - 1 < b / 2 ^ 52 - 1). moved_less (2 ^ 52 + a % 2 ^ 52) (2 ^ 52 + b % 2 ^ 52) (a / 2 ^ 52 - 1) (b / 2 ^ 52 - 1) (omega arith) (omega arith) g)
        (eq-or-lt_of_le (fields a b h)))
      where
        fields : (a b : ℕ) → a < b → a / 2 ^ 52 - 1 ≤ b / 2 ^ 52 - 1
        fields a b h = omega arith

    high : 2 ^ 52 ≤ b → bit_units a < bit_units b
    high k = ⊎_elim (apart k) (both k) (lt_or_ge a (2 ^ 52))

pub units_mono : (a b : ℕ) → a ≤ b → bit_units a ≤ bit_units b
units_mono a b h = ⊎_elim (λ e. le_of_eq (ap bit_units e)) (λ l. le_of_lt (units_lt a b l)) (eq-or-lt_of_le h)

units_test : (a b : ℕ) → ltb (bit_units a) (bit_units b) ≡ ltb a b
units_test a b =
    ⊎_elim
    (λ h. lt-ltb (bit_units a) (bit_units b) (units_lt a b h) ∙ sym (lt-ltb a b h))
    (λ h. le-ltb (bit_units a) (bit_units b) (units_mono b a h) ∙ sym (le-ltb a b h))
    (lt_or_ge a b)

-- ---- what a pattern stands for: an infinity at the top, and below it a value with no sign
pub top_is : of_bits binary64 (2047 * 2 ^ 52) ≡ inf false
unfolding of_bits
top_is = refl

pub zero_is : of_bits binary64 0 ≡ nought
unfolding of_bits
zero_is = refl

pub finite_is : (n : ℕ) → n < 2047 * 2 ^ 52 → (m : ℕ) × (e : ℤ) × (of_bits binary64 n ≡ fin false m e)
finite_is n h = go (of_bits binary64 n) (bits_value n h)
  where
    go : (x : Float) → HasValue x false (bit_units n) (2 ^ 1074) → (m : ℕ) × (e : ℤ) × (x ≡ fin false m e)
    go nan v = absurd v
    go (inf s) v = absurd v
    go (fin s m e) v = (m, e, ap (λ (t : Bool). fin t m e) v.0)

pub some_value : (n : ℕ) → n ≤ 2047 * 2 ^ 52 → is_nan (of_bits binary64 n) ≡ false
some_value n h = sym (nan_bits_is binary64 n) ∙ is_false (nan_bits binary64 n) (no_nan_bits n h)

-- two fractions over one denominator compare as their numerators
lt_values : (x y : Float) (a b c : ℕ) → 0 < c → HasValue x false a c → HasValue y false b c → lt x y ≡ ltb a b
unfolding lt
lt_values nan y a b c C p q = absurd p
lt_values (inf s) y a b c C p q = absurd p
lt_values (fin true m e) y a b c C p q = absurd (true≢false p.0)
lt_values (fin false m e) nan a b c C p q = absurd q
lt_values (fin false m e) (inf t) a b c C p q = absurd q
lt_values (fin false m e) (fin true n d) a b c C p q = absurd (true≢false q.0)
lt_values (fin false m e) (fin false n d) a b c C p q =
    sym (ltb_scale (m * up e * down d) (n * up d * down e) c C)
    ∙ ap (λ (x : ℕ). ltb x (n * up d * down e * c)) (mul_right_comm (m * up e) (down d) c ∙ ap (λ (x : ℕ). x * down d) p.1 ∙ mul_assoc a (down e) (down d))
    ∙ ap (λ (x : ℕ). ltb (a * (down e * down d)) x) (mul_right_comm (n * up d) (down e) c ∙ ap (λ (x : ℕ). x * down e) q.1 ∙ mul_assoc b (down d) (down e) ∙ ap (λ (x : ℕ). b * x) (mul_comm (down d) (down e)))
    ∙ ltb_scale a b (down e * down d) (mul-pos (down_pos e) (down_pos d))

-- ---- `x <= y` is the negation of `y < x`, where neither is a NaN
either : (a b : ℕ) → ltb a b || (eqb a b && true) ≡ not (ltb b a)
either a b = both_pos a b ∙ sym (leb_not a b)

-- where the signs differ, two sizes are level only where both are zero
both_none : (a b : ℕ) → eqb a b && eqb a 0 ≡ not (ltb 0 (b + a))
both_none zero zero = refl
both_none zero (suc b) = rw (eqb-zero-suc b, lt-ltb 0 (suc b + 0) (omega arith))
both_none (suc a) b = rw (eqb-suc-zero a, lt-ltb 0 (b + suc a) (omega arith)) (and-false (eqb (suc a) b))

some_or_none : (a b : ℕ) → ltb 0 (a + b) || (eqb a b && eqb a 0) ≡ true
some_or_none zero zero = refl
some_or_none zero (suc b) = rw (lt-ltb 0 (0 + suc b) (omega arith))
some_or_none (suc a) b = rw (lt-ltb 0 (suc a + b) (omega arith))

pub le_not : (x y : Float) → is_nan x ≡ false → is_nan y ≡ false → le x y ≡ not (lt y x)
unfolding le lt eq is_nan
le_not nan y p q = absurd (true≢false p)
le_not (inf s) nan p q = absurd (true≢false q)
le_not (fin s m e) nan p q = absurd (true≢false q)
le_not (inf false) (inf false) p q = refl
le_not (inf false) (inf true) p q = refl
le_not (inf true) (inf false) p q = refl
le_not (inf true) (inf true) p q = refl
le_not (inf false) (fin t n d) p q = refl
le_not (inf true) (fin t n d) p q = refl
le_not (fin s m e) (inf false) p q = refl
le_not (fin s m e) (inf true) p q = refl
le_not (fin false m e) (fin false n d) p q = either (m * up e * down d) (n * up d * down e)
le_not (fin false m e) (fin true n d) p q = both_none (m * up e * down d) (n * up d * down e)
le_not (fin true m e) (fin false n d) p q = some_or_none (m * up e * down d) (n * up d * down e)
le_not (fin true m e) (fin true n d) p q = flipped (m * up e * down d) (n * up d * down e)
  where
    flipped : (a b : ℕ) → ltb b a || (eqb a b && true) ≡ not (ltb a b)
    flipped a b = ap (λ (t : Bool). ltb b a || (t && true)) (same_test (eqb a b) (eqb b a) (λ t. turn a b t) (λ t. turn b a t)) ∙ either b a
      where
        turn : (a b : ℕ) → T (eqb a b) → T (eqb b a)
        turn a b t = T_true (eq-eqb b a (sym (eqb→eq a b t)))

-- a NaN is neither below anything nor above it
pub le_nan : (x : Float) → le x nan ≡ false
unfolding le lt eq
le_nan nan = refl
le_nan (inf s) = refl
le_nan (fin s m e) = refl

pub nan_le : (y : Float) → le nan y ≡ false
unfolding le lt eq
nan_le y = refl

pub is_nan_is : (x : Float) → is_nan x ≡ true → x ≡ nan
unfolding is_nan
is_nan_is nan h = refl
is_nan_is (inf s) h = absurd (false≢true h)
is_nan_is (fin s m e) h = absurd (false≢true h)

-- what compares as true is no NaN
pub le_some_left : (x y : Float) → le x y ≡ true → is_nan x ≡ false
le_some_left x y h = some_by x (le x y) (λ e. ap (λ (z : Float). le z y) e ∙ nan_le y) h

pub le_some_right : (x y : Float) → le x y ≡ true → is_nan y ≡ false
le_some_right x y h = some_by y (le x y) (λ e. ap (λ (z : Float). le x z) e ∙ le_nan x) h

-- ---- the values of two patterns compare as the patterns do
inf_lt : (y : Float) → lt (inf false) y ≡ false
unfolding lt
inf_lt nan = refl
inf_lt (inf t) = refl
inf_lt (fin t n d) = refl

lt_inf : (s : Bool) (m : ℕ) (e : ℤ) → lt (fin s m e) (inf false) ≡ true
unfolding lt
lt_inf s m e = refl

pub lt_patterns : (a b : ℕ) → a ≤ 2047 * 2 ^ 52 → b ≤ 2047 * 2 ^ 52 → lt (of_bits binary64 a) (of_bits binary64 b) ≡ ltb a b
lt_patterns a b h k = ⊎_elim from_top (λ l. ⊎_elim (to_top l) (inside l) (eq-or-lt_of_le k)) (eq-or-lt_of_le h)
  where
    from_top : a ≡ 2047 * 2 ^ 52 → lt (of_bits binary64 a) (of_bits binary64 b) ≡ ltb a b
    from_top e = ap (λ (x : Float). lt x (of_bits binary64 b)) (ap (of_bits binary64) e ∙ top_is) ∙ inf_lt (of_bits binary64 b) ∙ sym (le-ltb a b (le_trans k (le_of_eq (sym e))))

    to_top : a < 2047 * 2 ^ 52 → b ≡ 2047 * 2 ^ 52 → lt (of_bits binary64 a) (of_bits binary64 b) ≡ ltb a b
    to_top l e =
        let f = finite_is a l in
        ap (λ (x : Float). lt x (of_bits binary64 b)) f.2 ∙ ap (λ (x : Float). lt (fin false f.0 f.1) x) (ap (of_bits binary64) e ∙ top_is) ∙ lt_inf false f.0 f.1
        ∙ sym (lt-ltb a b (lt_of_lt_of_le l (le_of_eq (sym e))))

    inside : a < 2047 * 2 ^ 52 → b < 2047 * 2 ^ 52 → lt (of_bits binary64 a) (of_bits binary64 b) ≡ ltb a b
    inside l r = lt_values (of_bits binary64 a) (of_bits binary64 b) (bit_units a) (bit_units b) (2 ^ 1074) (pow_pos 1074) (bits_value a l) (bits_value b r) ∙ units_test a b

pub le_patterns : (a b : ℕ) → a ≤ 2047 * 2 ^ 52 → b ≤ 2047 * 2 ^ 52 → le (of_bits binary64 a) (of_bits binary64 b) ≡ leb a b
le_patterns a b h k = le_not (of_bits binary64 a) (of_bits binary64 b) (some_value a h) (some_value b k) ∙ ap not (lt_patterns b a k h) ∙ leb_not a b

-- ---- q compares as the value with the pattern n does, whichever side it stands on
pub record Like (q : Float) (n : ℕ) : Type 0 where
  pub range : n ≤ 2047 * 2 ^ 52
  pub some : is_nan q ≡ false
  pub lt_left : (y : Float) → lt q y ≡ lt (of_bits binary64 n) y
  pub lt_right : (y : Float) → lt y q ≡ lt y (of_bits binary64 n)

pub le_left : (q : Float) (n : ℕ) → Like q n → (y : Float) → le q y ≡ le (of_bits binary64 n) y
le_left q n l y = go (is_nan y) refl
  where
    go : (t : Bool) → is_nan y ≡ t → le q y ≡ le (of_bits binary64 n) y
    go true h = ap (le q) (is_nan_is y h) ∙ le_nan q ∙ sym (le_nan (of_bits binary64 n)) ∙ ap (le (of_bits binary64 n)) (sym (is_nan_is y h))
    go false h = le_not q y l.some h ∙ ap not (l.lt_right y) ∙ sym (le_not (of_bits binary64 n) y (some_value n l.range) h)

pub le_right : (q : Float) (n : ℕ) → Like q n → (y : Float) → le y q ≡ le y (of_bits binary64 n)
le_right q n l y = go (is_nan y) refl
  where
    at_nan : (x : Float) → y ≡ nan → le y x ≡ false
    at_nan x e = ap (λ (z : Float). le z x) e ∙ nan_le x

    go : (t : Bool) → is_nan y ≡ t → le y q ≡ le y (of_bits binary64 n)
    go true h = at_nan q (is_nan_is y h) ∙ sym (at_nan (of_bits binary64 n) (is_nan_is y h))
    go false h = le_not y q h l.some ∙ ap not (l.lt_left y) ∙ sym (le_not y (of_bits binary64 n) h (some_value n l.range))

pub lt_like : (p q : Float) (a b : ℕ) → Like p a → Like q b → lt p q ≡ ltb a b
lt_like p q a b h k = h.lt_left q ∙ k.lt_right (of_bits binary64 a) ∙ lt_patterns a b h.range k.range

pub le_like : (p q : Float) (a b : ℕ) → Like p a → Like q b → le p q ≡ leb a b
le_like p q a b h k = le_left p a h q ∙ le_right q b k (of_bits binary64 a) ∙ le_patterns a b h.range k.range

pub bits_like : (n : ℕ) → n ≤ 2047 * 2 ^ 52 → Like (of_bits binary64 n) n
bits_like n h = record { range = h; some = some_value n h; lt_left = λ y. refl; lt_right = λ y. refl }

pub zero_like : Like nought 0
zero_like = subst (λ (x : Float). Like x 0) zero_is (bits_like 0 zero-le)

-- -0 compares as +0
minus_lt : (y : Float) → lt (fin true 0 (pos 0)) y ≡ lt nought y
unfolding lt
minus_lt nan = refl
minus_lt (inf t) = refl
minus_lt (fin false n d) = go (0 * down d) (n * up d * 1) (zero-mul (down d))
  where
    go : (z b : ℕ) → z ≡ 0 → ltb 0 (z + b) ≡ ltb z b
    go z b e = rw (e, zero-add b)
minus_lt (fin true n d) = go (0 * down d) (n * up d * 1) (zero-mul (down d))
  where
    go : (z b : ℕ) → z ≡ 0 → ltb b z ≡ false
    go z b e = le-ltb b z (omega arith)

lt_minus : (y : Float) → lt y (fin true 0 (pos 0)) ≡ lt y nought
unfolding lt
lt_minus nan = refl
lt_minus (inf t) = refl
lt_minus (fin false m e) = go (0 * down e) (m * up e * 1) (zero-mul (down e))
  where
    go : (z a : ℕ) → z ≡ 0 → false ≡ ltb a z
    go z a e = sym (le-ltb a z (omega arith))
lt_minus (fin true m e) = go (0 * down e) (m * up e * 1) (zero-mul (down e))
  where
    go : (z a : ℕ) → z ≡ 0 → ltb z a ≡ ltb 0 (a + z)
    go z a e = rw (e, add-zero a)

pub minus_like : Like (fin true 0 (pos 0)) 0
unfolding is_nan
minus_like = record { range = zero-le; some = refl; lt_left = λ y. minus_lt y ∙ ap (λ (x : Float). lt x y) (sym zero_is); lt_right = λ y. lt_minus y ∙ ap (lt y) (sym zero_is) }

-- a value that is not below zero is a NaN, -0, or the value of a pattern up to the infinity's
pub data Shape (q : Float) : Type 0 where
  no_number : q ≡ nan → Shape q
  minus_zero : q ≡ fin true 0 (pos 0) → Shape q
  pattern : (n : ℕ) → n ≤ 2047 * 2 ^ 52 → q ≡ of_bits binary64 n → Shape q

pub shape : (q : Float) → T (fits binary64 q) → lt q nought ≡ false → Shape q
shape nan t h = no_number refl
shape (inf true) t h = absurd (true≢false (unfold lt in h))
shape (inf false) t h = pattern (2047 * 2 ^ 52) (lit≤ tt) (sym top_is)
shape (fin true zero e) t h = minus_zero (ap (fin true 0) (zero_exp true e t))
shape (fin true (suc m) e) t h = absurd (is_below m e h)
shape (fin false m e) t h = pattern (to_bits binary64 (fin false m e)) (le_of_lt (bits_under m e t)) (sym (of_bits-to_bits binary64 (fin false m e) t))

-- so it compares as some pattern does
pub like : (q : Float) → T (fits binary64 q) → lt q nought ≡ false → is_nan q ≡ false → (n : ℕ) × Like q n
unfolding is_nan
like q t h k = go (shape q t h)
  where
    go : Shape q → (n : ℕ) × Like q n
    go (no_number e) = absurd (true≢false (ap is_nan (sym e) ∙ k))
    go (minus_zero e) = (0, subst (λ (x : Float). Like x 0) (sym e) minus_like)
    go (pattern n l e) = (n, subst (λ (x : Float). Like x n) (sym e) (bits_like n l))

-- ---- values on both sides of zero
below_fin : (q : Float) (a : ℕ) (d : ℤ) → lt q nought ≡ true → lt q (fin false a d) ≡ true
below_fin nan a d h = absurd (false≢true (unfold lt in h))
below_fin (inf true) a d h = unfold lt in refl
below_fin (inf false) a d h = absurd (false≢true (unfold lt in h))
below_fin (fin false m e) a d h = absurd (not_below m e h)
below_fin (fin true m e) a d h = unfold lt in go (m * up e) (0 * down e) (down d) (a * up d * down e) (zero-mul (down e)) (down_pos d) (ltb-true 0 (m * up e * 1 + 0 * down e) (unfold lt in h))
  where
    more : (x b : ℕ) → 0 < x → 0 < x + b
    more x b h = omega arith

    some : (x z : ℕ) → z ≡ 0 → 0 < x * 1 + z → 0 < x
    some x z e h = omega arith

    go : (x z p b : ℕ) → z ≡ 0 → 0 < p → 0 < x * 1 + z → ltb 0 (x * p + b) ≡ true
    go x z p b e P h = lt-ltb 0 (x * p + b) (more (x * p) b (mul-pos (some x z e h) P))

pub lt_le : (x y : Float) → lt x y ≡ true → le x y ≡ true
unfolding le
lt_le x y h = ap (λ (t : Bool). t || eq x y) h

pub lt_asym : (x y : Float) → is_nan x ≡ false → is_nan y ≡ false → lt x y ≡ true → lt y x ≡ false
lt_asym x y p q h = not-true (lt y x) (sym (le_not x y p q) ∙ lt_le x y h)

-- what is below zero is below every pattern's value
below_all : (q : Float) (n : ℕ) → n ≤ 2047 * 2 ^ 52 → lt q nought ≡ true → lt q (of_bits binary64 n) ≡ true
below_all q n l h = ⊎_elim at_top inside (eq-or-lt_of_le l)
  where
    to_inf : (q : Float) → lt q nought ≡ true → lt q (inf false) ≡ true
    to_inf nan h = absurd (false≢true (unfold lt in h))
    to_inf (inf true) h = unfold lt in refl
    to_inf (inf false) h = absurd (false≢true (unfold lt in h))
    to_inf (fin s m e) h = lt_inf s m e

    at_top : n ≡ 2047 * 2 ^ 52 → lt q (of_bits binary64 n) ≡ true
    at_top e = ap (lt q) (ap (of_bits binary64) e ∙ top_is) ∙ to_inf q h

    inside : n < 2047 * 2 ^ 52 → lt q (of_bits binary64 n) ≡ true
    inside r = let f = finite_is n r in ap (lt q) f.2 ∙ below_fin q f.0 f.1 h

-- x is at least zero, and y at least x: so is y
pub up_from_zero : (x y : Float) → T (fits binary64 x) → lt x nought ≡ false → le x y ≡ true → lt y nought ≡ false
up_from_zero x y t h k = go (lt y nought) refl
  where
    xs : is_nan x ≡ false
    xs = le_some_left x y k

    go : (b : Bool) → lt y nought ≡ b → lt y nought ≡ false
    go false e = e
    go true e =
        let l = like x t h xs in
        not_both (l.1.lt_right y ∙ below_all y l.0 l.1.range e) (not-true (lt y x) (sym (le_not x y xs (le_some_right x y k)) ∙ k))

-- x is at most zero: no pattern's value is below it
pub none_below_low : (x : Float) (n : ℕ) → T (fits binary64 x) → n ≤ 2047 * 2 ^ 52 → le x nought ≡ true → lt (of_bits binary64 n) x ≡ false
none_below_low x n t l h = go (lt x nought) refl
  where
    xs : is_nan x ≡ false
    xs = le_some_left x nought h

    go : (b : Bool) → lt x nought ≡ b → lt (of_bits binary64 n) x ≡ false
    go true e = lt_asym x (of_bits binary64 n) xs (some_value n l) (below_all x n l e)
    go false e =
        let k = like x t e xs in
        lt_like (of_bits binary64 n) x n k.0 (bits_like n l) k.1
        ∙ le-ltb n k.0 (le_trans (leb-true k.0 0 (sym (le_like x nought k.0 0 k.1 zero_like) ∙ h)) zero-le)
