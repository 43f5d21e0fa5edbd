-- The order of the floats as that of signed fractions, an infinity at each end: it is transitive, `neg` turns it round, and rounding keeps it. Assumes nothing.
use Rattle.std.proofs.Common.{◌≡◌, ℕ, zero, suc, ◌+◌, ◌*◌, ◌^◌, ◌<◌, ◌≤◌, Bool, true, false, cond, not, ltb, leb, ℤ, pos, negsuc, sym, refl, ap, ◌∙◌, true≢false, le_refl, add-zero, mul-le-mul_right, zero-lt-suc, add_comm, zero-add, zero-mul, le_of_mul-le-mul_right, arith, le-ltb, le-leb, leb-true}
use mathlib.Core.Bool.{false≢true}
use lib.Signed.{le_z}
use lib.Ieee.{Float, nan, inf, fin, binary64, up, down, odd, units, round, neg, lt, le, below, is_nan, of_int}
use lib.Ieee.Bits.{is_true}
use lib.Ieee.Fits.{down_pos, round_is}
use lib.Ieee.Order.{kept, drop, round_mono}
use lib.Ieee.Scale.{finite}
use borrow.Author.Tests.{not-true, not-false}
use Rattle.ieee.specs.Constants.{nought}
use Rattle.ieee.specs.Pick.{abs_f}
use Rattle.ieee.proofs.Tools.{leb_not, not_both, lt_some_right}
use Rattle.ieee.proofs.Patterns.{le_not, le_some_left, le_some_right, lt_le}

-- ---- signed fractions
-- ±a is `gain s a - loss s a`
abbrev pub gain : Bool → ℕ → ℕ
gain false a = a
gain true a = 0

abbrev pub loss : Bool → ℕ → ℕ
loss false a = 0
loss true a = a

-- ±a / c is at most ±b / d, both multiplied out
abbrev pub side : Bool → ℕ → ℕ → Bool → ℕ → ℕ → ℕ
side s a c t b d = gain s a * d + loss t b * c

abbrev pub AtMost : Bool → ℕ → ℕ → Bool → ℕ → ℕ → Type 0
AtMost s a c t b d = side s a c t b d ≤ side t b d s a c

gain_not : (s : Bool) (a : ℕ) → gain (not s) a ≡ loss s a
gain_not false a = refl
gain_not true a = refl

loss_not : (s : Bool) (a : ℕ) → loss (not s) a ≡ gain s a
loss_not false a = refl
loss_not true a = refl

pub gain_scale : (s : Bool) (a k : ℕ) → gain s (a * k) ≡ gain s a * k
gain_scale false a k = refl
gain_scale true a k = sym (zero-mul k)

pub loss_scale : (s : Bool) (a k : ℕ) → loss s (a * k) ≡ loss s a * k
loss_scale false a k = sym (zero-mul k)
loss_scale true a k = refl

-- both times k / g, which is l / j
pub at_most_scale : (s : Bool) (a c : ℕ) (t : Bool) (b d k g l j : ℕ) → k * j ≡ l * g → AtMost s a c t b d → AtMost s (a * k) (c * g) t (b * l) (d * j)
at_most_scale s a c t b d k g l j e h =
    let i = mul-le-mul_right (k * j) h in
    let x = ap (λ (z : ℕ). gain t b * c * z) e in
    let y = ap (λ (z : ℕ). loss t b * c * z) e in
    rw (gain_scale s a k, gain_scale t b l, loss_scale s a k, loss_scale t b l) (omega arith)

-- a / c is at most -b / d: both are zero
pub at_most_zero : (a c b d : ℕ) → 0 < c → 0 < d → AtMost false a c true b d → (a ≡ 0) × (b ≡ 0)
at_most_zero a c b d C D h = (none a d D (omega arith), none b c C (omega arith))
  where
    none : (x k : ℕ) → 0 < k → x * k ≤ 0 → x ≡ 0
    none x k K h =
        let l : x * k ≤ 0 * k = omega arith in
        let i : x ≤ 0 = le_of_mul-le-mul_right l K in
        omega arith

below_parts : (s : Bool) (a c : ℕ) (t : Bool) (b d : ℕ) → below s (a * d) t (b * c) ≡ ltb (side s a c t b d) (side t b d s a c)
below_parts false a c false b d = simp (zero-mul, add-zero)
below_parts false a c true b d = sym (le-ltb (a * d + b * c) (0 * c + 0 * d) (omega arith))
below_parts true a c false b d = rw (zero-mul d, zero-mul c, add_comm (a * d) (b * c))
below_parts true a c true b d = simp (zero-mul, zero-add)

pub le_fin : (s : Bool) (m : ℕ) (e : ℤ) (t : Bool) (n : ℕ) (d : ℤ) → le (fin s m e) (fin t n d) ≡ leb (side s (m * up e) (down e) t (n * up d) (down d)) (side t (n * up d) (down d) s (m * up e) (down e))
unfolding lt is_nan
le_fin s m e t n d =
    le_not (fin s m e) (fin t n d) refl refl
    ∙ ap not (below_parts t (n * up d) (down d) s (m * up e) (down e))
    ∙ leb_not (side s (m * up e) (down e) t (n * up d) (down d)) (side t (n * up d) (down d) s (m * up e) (down e))

-- ---- x is at most y in one of three ways
pub data Ordered : Float → Float → Type 0 where
  bottom : {y : Float} → is_nan y ≡ false → Ordered (inf true) y
  top : {x : Float} → is_nan x ≡ false → Ordered x (inf false)
  inside : {s : Bool} {m : ℕ} {e : ℤ} {t : Bool} {n : ℕ} {d : ℤ} → AtMost s (m * up e) (down e) t (n * up d) (down d) → Ordered (fin s m e) (fin t n d)

pub ordered : (x y : Float) → le x y ≡ true → Ordered x y
unfolding le is_nan
ordered nan y h = absurd (false≢true h)
ordered (inf true) y h = bottom (le_some_right (inf true) y h)
ordered (inf false) nan h = absurd (false≢true h)
ordered (inf false) (inf true) h = absurd (false≢true h)
ordered (inf false) (inf false) h = top refl
ordered (inf false) (fin t n d) h = absurd (false≢true h)
ordered (fin s m e) nan h = absurd (false≢true h)
ordered (fin s m e) (inf true) h = absurd (false≢true h)
ordered (fin s m e) (inf false) h = top refl
ordered (fin s m e) (fin t n d) h =
    inside (leb-true (side s (m * up e) (down e) t (n * up d) (down d)) (side t (n * up d) (down d) s (m * up e) (down e)) (sym (le_fin s m e t n d) ∙ h))

pub bottom_le : (y : Float) → is_nan y ≡ false → le (inf true) y ≡ true
unfolding le is_nan
bottom_le nan h = absurd (true≢false h)
bottom_le (inf true) h = refl
bottom_le (inf false) h = refl
bottom_le (fin t n d) h = refl

pub le_top : (x : Float) → is_nan x ≡ false → le x (inf false) ≡ true
unfolding le is_nan
le_top nan h = absurd (true≢false h)
le_top (inf true) h = refl
le_top (inf false) h = refl
le_top (fin s m e) h = refl

pub inside_le : (s : Bool) (m : ℕ) (e : ℤ) (t : Bool) (n : ℕ) (d : ℤ) → AtMost s (m * up e) (down e) t (n * up d) (down d) → le (fin s m e) (fin t n d) ≡ true
inside_le s m e t n d h = le_fin s m e t n d ∙ le-leb (side s (m * up e) (down e) t (n * up d) (down d)) (side t (n * up d) (down d) s (m * up e) (down e)) h

-- ---- laws of the order
-- ±a / p ≤ ±b / q ≤ ±c / r
at_most_trans : (s : Bool) (a p : ℕ) (t : Bool) (b q : ℕ) (u : Bool) (c r : ℕ) → 0 < q → AtMost s a p t b q → AtMost t b q u c r → AtMost s a p u c r
at_most_trans s a p t b q u c r Q h k =
    let i = mul-le-mul_right r h in
    let j = mul-le-mul_right p k in
    let l : side s a p u c r * q ≤ side u c r s a p * q = omega arith in
    le_of_mul-le-mul_right l Q

pub le_self : (x : Float) → is_nan x ≡ false → le x x ≡ true
le_self nan h = absurd (true≢false (unfold is_nan in h))
le_self (inf true) h = bottom_le (inf true) h
le_self (inf false) h = le_top (inf false) h
le_self (fin s m e) h = inside_le s m e s m e (le_refl (side s (m * up e) (down e) s (m * up e) (down e)))

pub le_trans : (x y z : Float) → le x y ≡ true → le y z ≡ true → le x z ≡ true
le_trans x y z h k = go (le_some_left x y h) (le_some_right y z k) (ordered x y h) (ordered y z k)
  where
    go : {x y z : Float} → is_nan x ≡ false → is_nan z ≡ false → Ordered x y → Ordered y z → le x z ≡ true
    go p q (bottom i) k = bottom_le _ q
    go p q (top i) (top j) = le_top _ p
    go p q (inside i) (top j) = le_top _ p
    go p q (inside {s = s} {m = m} {e = e} {t = t} {n = n} {d = d} i) (inside {t = u} {n = o} {d = g} j) =
        inside_le s m e u o g (at_most_trans s (m * up e) (down e) t (n * up d) (down d) u (o * up g) (down g) (down_pos d) i j)

-- ---- `<` and `<=` from one another
pub le_lt : (x y : Float) → le x y ≡ true → lt y x ≡ false
le_lt x y h = not-true (lt y x) (sym (le_not x y (le_some_left x y h) (le_some_right x y h)) ∙ h)

pub not_lt_le : (x y : Float) → is_nan x ≡ false → is_nan y ≡ false → lt x y ≡ false → le y x ≡ true
not_lt_le x y p q h = le_not y x q p ∙ ap not h

pub not_le_lt : (x y : Float) → is_nan x ≡ false → is_nan y ≡ false → le x y ≡ false → lt y x ≡ true
not_le_lt x y p q h = not-false (lt y x) (sym (le_not x y p q) ∙ h)

pub not_below_le : (x : Float) → is_nan x ≡ false → lt x nought ≡ false → le nought x ≡ true
unfolding is_nan
not_below_le x p h = not_lt_le x nought p refl h

lt_by : (x y : Float) → is_nan x ≡ false → is_nan y ≡ false → (le y x ≡ true → lt x y ≡ true) → lt x y ≡ true
lt_by x y p q f = go (lt x y) refl
  where
    go : (b : Bool) → lt x y ≡ b → lt x y ≡ true
    go true e = e
    go false e = f (not_lt_le x y p q e)

pub le_lt_trans : (x y z : Float) → le x y ≡ true → lt y z ≡ true → lt x z ≡ true
le_lt_trans x y z h k = lt_by x z (le_some_left x y h) (lt_some_right y z k) (λ i. not_both k (le_lt z y (le_trans z x y i h)))

pub lt_le_trans : (x y z : Float) → lt x y ≡ true → le y z ≡ true → lt x z ≡ true
lt_le_trans x y z h k = lt_by x z (le_some_left x y (lt_le x y h)) (le_some_right y z k) (λ i. not_both h (le_lt y x (le_trans y z x k i)))

-- ---- negation
pub neg_neg : (x : Float) → neg (neg x) ≡ x
unfolding neg
neg_neg nan = refl
neg_neg (inf true) = refl
neg_neg (inf false) = refl
neg_neg (fin true m e) = refl
neg_neg (fin false m e) = refl

pub neg_number : (x : Float) → is_nan (neg x) ≡ is_nan x
unfolding neg is_nan
neg_number nan = refl
neg_number (inf s) = refl
neg_number (fin s m e) = refl

pub neg_anti : (x y : Float) → le x y ≡ true → le (neg y) (neg x) ≡ true
unfolding neg
neg_anti x y h = go (ordered x y h)
  where
    turn : (s : Bool) (a c : ℕ) (t : Bool) (b d : ℕ) → AtMost s a c t b d → AtMost (not t) b d (not s) a c
    turn s a c t b d h = rw (gain_not t b, gain_not s a, loss_not t b, loss_not s a) (omega arith)

    go : {x y : Float} → Ordered x y → le (neg y) (neg x) ≡ true
    go (bottom {y = y} i) = le_top (neg y) (neg_number y ∙ i)
    go (top {x = x} i) = bottom_le (neg x) (neg_number x ∙ i)
    go (inside {s = s} {m = m} {e = e} {t = t} {n = n} {d = d} i) = inside_le (not t) n d (not s) m e (turn s (m * up e) (down e) t (n * up d) (down d) i)

pub neg_low : (x : Float) → le nought x ≡ true → le (neg x) nought ≡ true
unfolding neg le
neg_low x h = le_trans (neg x) (neg nought) nought (neg_anti nought x h) refl

pub neg_high : (x : Float) → le x nought ≡ true → le nought (neg x) ≡ true
unfolding neg le
neg_high x h = le_trans nought (neg nought) (neg x) refl (neg_anti x nought h)

pub round_neg : (s : Bool) (a c : ℕ) → round binary64 (not s) a c ≡ neg (round binary64 s a c)
round_neg s a c = round_is binary64 (not s) a c ∙ of_units (kept 53 (a * 2 ^ 1074) c) (drop 53 (a * 2 ^ 1074) c) ∙ ap neg (sym (round_is binary64 s a c))
  where
    of_odd : (q k : ℕ) → odd 54 (not s) q k 1074 ≡ neg (odd 54 s q k 1074)
    of_odd zero k = unfold odd neg in refl
    of_odd (suc q) k = unfold odd neg in refl

    of_pick : (b : Bool) (x y : Float) → x ≡ neg y → cond b x (inf (not s)) ≡ neg (cond b y (inf s))
    of_pick true x y h = h
    of_pick false x y h = unfold neg in refl

    of_units : (q k : ℕ) → units binary64 (not s) q k ≡ neg (units binary64 s q k)
    of_units q k = unfold units in of_pick (ltb (q * 2 ^ k) (2 ^ 2098)) (odd 54 (not s) q k 1074) (odd 54 s q k 1074) (of_odd q k)

-- ---- rounding keeps the order
round_up : (a c b d : ℕ) → 0 < c → 0 < d → a * d ≤ b * c → le (round binary64 false a c) (round binary64 false b d) ≡ true
round_up a c b d C D h = is_true (le (round binary64 false a c) (round binary64 false b d)) (round_mono binary64 a c b d C D h)

zero_round : round binary64 false 0 1 ≡ nought
unfolding round
zero_round = refl

-- what is not above zero rounds to what is not above zero; and the mirror image
round_low : (s : Bool) (a c : ℕ) → 0 < c → gain s a ≡ 0 → le (round binary64 s a c) nought ≡ true
round_low false a c C h = rw zero_round at (round_up a c 0 1 C (zero-lt-suc 0) (omega arith))
round_low true a c C h = rw (round_neg false a c) (neg_low (round binary64 false a c) (rw zero_round at (round_up 0 1 a c (zero-lt-suc 0) C (omega arith))))

pub round_high : (s : Bool) (a c : ℕ) → 0 < c → loss s a ≡ 0 → le nought (round binary64 s a c) ≡ true
round_high s a c C h = rw (round_neg s a c, neg_neg) at (neg_high (round binary64 (not s) a c) (round_low (not s) a c C (gain_not s a ∙ h)))

pub round_le : (s : Bool) (a c : ℕ) (t : Bool) (b d : ℕ) → 0 < c → 0 < d → AtMost s a c t b d → le (round binary64 s a c) (round binary64 t b d) ≡ true
round_le false a c false b d C D h = round_up a c b d C D (omega arith)
round_le true a c true b d C D h = rw (round_neg false a c, round_neg false b d) (neg_anti (round binary64 false b d) (round binary64 false a c) (round_up b d a c D C (omega arith)))
round_le true a c false b d C D h = le_trans (round binary64 true a c) nought (round binary64 false b d) (round_low true a c C refl) (round_high false b d D refl)
round_le false a c true b d C D h =
    let z = at_most_zero a c b d C D h in
    le_trans (round binary64 false a c) nought (round binary64 true b d) (round_low false a c C z.0) (round_high true b d D z.1)

pub of_int_mono : (z w : ℤ) → le_z z w ≡ true → le (of_int binary64 z) (of_int binary64 w) ≡ true
unfolding of_int
of_int_mono (pos n) (pos m) h = let k = leb-true n m h in round_le false n 1 false m 1 (zero-lt-suc 0) (zero-lt-suc 0) (omega arith)
of_int_mono (pos n) (negsuc m) h = absurd (false≢true h)
of_int_mono (negsuc n) (pos m) h = round_le true (suc n) 1 false m 1 (zero-lt-suc 0) (zero-lt-suc 0) (omega arith)
of_int_mono (negsuc n) (negsuc m) h = let k = leb-true m n h in round_le true (suc n) 1 true (suc m) 1 (zero-lt-suc 0) (zero-lt-suc 0) (omega arith)

-- ---- finite values
pub finite_number : (x : Float) → finite x ≡ true → is_nan x ≡ false
unfolding is_nan
finite_number nan h = absurd (false≢true h)
finite_number (inf s) h = refl
finite_number (fin s m e) h = refl

pub finite_neg : (x : Float) → finite (neg x) ≡ finite x
unfolding neg
finite_neg nan = refl
finite_neg (inf s) = refl
finite_neg (fin s m e) = refl

pub finite_test : (x : Float) → finite x ≡ lt (abs_f x) (inf false)
unfolding lt abs_f
finite_test nan = refl
finite_test (inf s) = refl
finite_test (fin s m e) = refl

pub finite_between : (a x b : Float) → finite a ≡ true → finite b ≡ true → le a x ≡ true → le x b ≡ true → finite x ≡ true
finite_between a x b p q h k = go (ordered a x h) (ordered x b k) p q
  where
    go : {a x b : Float} → Ordered a x → Ordered x b → finite a ≡ true → finite b ≡ true → finite x ≡ true
    go (bottom i) k p q = absurd (false≢true p)
    go (top i) (top j) p q = absurd (false≢true q)
    go (inside i) k p q = refl
