-- `add` and `sub` grow with what is added and shrink with what is taken off; where no NaN comes of them; what is at least zero adds to a value. Assumes nothing.
use Rattle.std.proofs.Common.{◌≡◌, ℕ, suc, ◌+◌, ◌-◌, ◌*◌, ◌^◌, ◌<◌, ◌≤◌, Bool, true, false, cond, ◌&&◌, T, ltb, ℤ, pos, negsuc, sym, refl, ap, ◌∙◌, ⊎_elim, true≢false, mul_comm, add_comm, mul-pos, zero-mul, mul-one, not-le_of_lt, div-one, arith, pow_pos, ltb-false, ltb-true}
use mathlib.Core.Bool.{false≢true}
use lib.Pow.{pow-lt}
use lib.Ieee.{Float, nan, inf, fin, binary64, up, down, round, neg, sum, add, sub, le, fits, is_nan}
use lib.Ieee.Fits.{down_pos}
use lib.Ieee.Exact.{HasValue}
use lib.Ieee.Scale.{finite}
use Rattle.ieee.specs.Constants.{nought}
use Rattle.ieee.proofs.Tools.{lt_or_ge, held}
use Rattle.ieee.proofs.Compare.{sum_number}
use Rattle.ieee.proofs.Patterns.{le_some_right}
use Rattle.ieee.proofs.Dyadic.{round_dyadic}
use Rattle.ieee.proofs.Floor.{cut_exact}
use Rattle.ieee.proofs.Monotone.{gain, loss, AtMost, at_most_scale, Ordered, bottom, top, inside, ordered, bottom_le, le_top, inside_le, le_self, le_trans, neg_number, neg_anti, round_le, finite_neg}

-- ---- ±a / c + ±b / c
sum_mixed : (a b c : ℕ) → sum binary64 false a true b c ≡ sum binary64 true b false a c
unfolding sum
sum_mixed a b c = go (ltb a b) (ltb b a) refl refl
  where
    go : (l g : Bool) → ltb a b ≡ l → ltb b a ≡ g → cond l (round binary64 true (b - a) c) (round binary64 false (a - b) c) ≡ cond g (round binary64 false (a - b) c) (round binary64 (true && l) (b - a) c)
    go true true h k = let i = ltb-true a b h in let j = ltb-true b a k in absurd (let e : ⊥ = omega arith in e)
    go true false h k = refl
    go false true h k = refl
    go false false h k =
        let i = ltb-false a b h in
        let j = ltb-false b a k in
        let e : a - b ≡ b - a = omega arith in
        ap (λ (x : ℕ). round binary64 false x c) e

sum_comm : (s : Bool) (a : ℕ) (t : Bool) (b c : ℕ) → sum binary64 s a t b c ≡ sum binary64 t b s a c
unfolding sum
sum_comm false a false b c = ap (λ (x : ℕ). round binary64 false x c) (add_comm a b)
sum_comm false a true b c = sum_mixed a b c
sum_comm true a false b c = sym (sum_mixed b a c)
sum_comm true a true b c = ap (λ (x : ℕ). round binary64 true x c) (add_comm a b)

pub add_commutes : (x y : Float) → add binary64 x y ≡ add binary64 y x
unfolding add
add_commutes nan nan = refl
add_commutes nan (inf t) = refl
add_commutes nan (fin t n d) = refl
add_commutes (inf s) nan = refl
add_commutes (inf true) (inf true) = refl
add_commutes (inf true) (inf false) = refl
add_commutes (inf false) (inf true) = refl
add_commutes (inf false) (inf false) = refl
add_commutes (inf s) (fin t n d) = refl
add_commutes (fin s m e) nan = refl
add_commutes (fin s m e) (inf t) = refl
add_commutes (fin s m e) (fin t n d) =
    sum_comm s (m * up e * down d) t (n * up d * down e) (down e * down d) ∙ ap (sum binary64 t (n * up d * down e) s (m * up e * down d)) (mul_comm (down e) (down d))

-- it is rounded from the one fraction ±v / c that it comes to
abbrev RoundedSum : Float → Bool → ℕ → Bool → ℕ → ℕ → Type 0
RoundedSum x s a t b c = (r : Bool) × (v : ℕ) × (x ≡ round binary64 r v c) × (gain r v + (loss s a + loss t b) ≡ gain s a + gain t b + loss r v)

mixed_rounded : (a b c : ℕ) → RoundedSum (sum binary64 false a true b c) false a true b c
unfolding sum
mixed_rounded a b c = go (ltb a b) refl
  where
    go : (l : Bool) → ltb a b ≡ l → RoundedSum (cond l (round binary64 true (b - a) c) (round binary64 false (a - b) c)) false a true b c
    go true h = let i = ltb-true a b h in (true, b - a, refl, omega arith)
    go false h = let i = ltb-false a b h in (false, a - b, refl, omega arith)

sum_rounded : (s : Bool) (a : ℕ) (t : Bool) (b c : ℕ) → RoundedSum (sum binary64 s a t b c) s a t b c
unfolding sum
sum_rounded false a false b c = (false, a + b, refl, omega arith)
sum_rounded true a true b c = (true, a + b, refl, omega arith)
sum_rounded false a true b c = mixed_rounded a b c
sum_rounded true a false b c = let m = mixed_rounded b a c in (m.0, m.1, sym (sum_mixed b a c) ∙ m.2, omega arith)

-- two sums, each summand of the first at most its like in the second
sum_le : (s : Bool) (a : ℕ) (s' : Bool) (a' c : ℕ) (t : Bool) (b : ℕ) (t' : Bool) (b' d : ℕ) → 0 < c → 0 < d → AtMost s a c t b d → AtMost s' a' c t' b' d
    → le (sum binary64 s a s' a' c) (sum binary64 t b t' b' d) ≡ true
sum_le s a s' a' c t b t' b' d C D h k =
    let x = sum_rounded s a s' a' c in
    let y = sum_rounded t b t' b' d in
    rw (x.2, y.2) (round_le x.0 x.1 c y.0 y.1 d C D (cross (gain x.0 x.1) (loss x.0 x.1) (gain y.0 y.1) (loss y.0 y.1) x.3 y.3))
  where
    cross : (P N Q M : ℕ) → P + (loss s a + loss s' a') ≡ gain s a + gain s' a' + N → Q + (loss t b + loss t' b') ≡ gain t b + gain t' b' + M → P * d + M * c ≤ Q * c + N * d
    cross P N Q M e f = let i = ap (λ (z : ℕ). z * d) e in let j = ap (λ (z : ℕ). z * c) f in omega arith

-- ---- sums and differences keep the order
inf_add : (s : Bool) (y : Float) → is_nan (add binary64 (inf s) y) ≡ false → add binary64 (inf s) y ≡ inf s
unfolding add is_nan
inf_add s nan h = absurd (true≢false h)
inf_add true (inf true) h = refl
inf_add true (inf false) h = absurd (true≢false h)
inf_add false (inf true) h = absurd (true≢false h)
inf_add false (inf false) h = refl
inf_add s (fin t n d) h = refl

pub add_mono : (a b y z : Float) → le a b ≡ true → le y z ≡ true → is_nan (add binary64 a y) ≡ false → is_nan (add binary64 b z) ≡ false → le (add binary64 a y) (add binary64 b z) ≡ true
unfolding add
add_mono a b y z h k = go (ordered a b h) (ordered y z k)
  where
    go : {a b y z : Float} → Ordered a b → Ordered y z → is_nan (add binary64 a y) ≡ false → is_nan (add binary64 b z) ≡ false → le (add binary64 a y) (add binary64 b z) ≡ true
    go {y} (bottom i) j p q = rw (inf_add true y p) (bottom_le _ q)
    go {z} (top i) j p q = rw (inf_add false z q) (le_top _ p)
    go (inside i) (bottom j) p q = bottom_le _ q
    go (inside i) (top j) p q = le_top _ p
    go (inside {s = s} {m = m} {e = e} {t = t} {n = n} {d = d} i) (inside {s = s'} {m = m'} {e = e'} {t = t'} {n = n'} {d = d'} j) p q =
        sum_le s (m * up e * down e') s' (m' * up e' * down e) (down e * down e') t (n * up d * down d') t' (n' * up d' * down d) (down d * down d') (mul-pos (down_pos e) (down_pos e')) (mul-pos (down_pos d) (down_pos d'))
        (at_most_scale s (m * up e) (down e) t (n * up d) (down d) (down e') (down e') (down d') (down d') (mul_comm (down e') (down d')) i)
        (rw (mul_comm (down e') (down e), mul_comm (down d') (down d)) at (at_most_scale s' (m' * up e') (down e') t' (n' * up d') (down d') (down e) (down e) (down d) (down d) (mul_comm (down e) (down d)) j))

pub sub_both : (a b y z : Float) → le a b ≡ true → le y z ≡ true → is_nan (sub binary64 a z) ≡ false → is_nan (sub binary64 b y) ≡ false → le (sub binary64 a z) (sub binary64 b y) ≡ true
unfolding sub
sub_both a b y z h k p q = add_mono a b (neg z) (neg y) h (neg_anti y z k) p q

-- a sum that is a number has a number as its first part
add_some : (x y : Float) → is_nan (add binary64 x y) ≡ false → is_nan x ≡ false
unfolding add is_nan
add_some nan y h = absurd (true≢false h)
add_some (inf s) y h = refl
add_some (fin s m e) y h = refl

pub sub_mono : (a b z : Float) → le a b ≡ true → is_nan (sub binary64 a z) ≡ false → is_nan (sub binary64 b z) ≡ false → le (sub binary64 a z) (sub binary64 b z) ≡ true
unfolding sub
sub_mono a b z h p q = add_mono a b (neg z) (neg z) h (le_self (neg z) (add_some (neg z) a (ap is_nan (add_commutes (neg z) a) ∙ p))) p q

pub sub_anti : (x y z : Float) → le y z ≡ true → is_nan (sub binary64 x y) ≡ false → is_nan (sub binary64 x z) ≡ false → le (sub binary64 x z) (sub binary64 x y) ≡ true
unfolding sub
sub_anti x y z h p q = sub_both x x y z (le_self x (add_some x (neg y) p)) h q p

-- ---- no NaN comes of a finite value and a number, nor of two values that are not below zero
pub add_number : (x y : Float) → finite x ≡ true → is_nan y ≡ false → is_nan (add binary64 x y) ≡ false
unfolding add is_nan
add_number nan y h k = absurd (false≢true h)
add_number (inf s) y h k = absurd (false≢true h)
add_number (fin s m e) nan h k = absurd (true≢false k)
add_number (fin s m e) (inf t) h k = refl
add_number (fin s m e) (fin t n d) h k = sum_number s (m * up e * down d) t (n * up d * down e) (down e * down d)

pub number_add : (x y : Float) → is_nan x ≡ false → finite y ≡ true → is_nan (add binary64 x y) ≡ false
number_add x y h k = ap is_nan (add_commutes x y) ∙ add_number y x k h

pub sub_number : (x y : Float) → finite x ≡ true → is_nan y ≡ false → is_nan (sub binary64 x y) ≡ false
unfolding sub
sub_number x y h k = add_number x (neg y) h (neg_number y ∙ k)

pub number_sub : (x y : Float) → is_nan x ≡ false → finite y ≡ true → is_nan (sub binary64 x y) ≡ false
unfolding sub
number_sub x y h k = number_add x (neg y) h (finite_neg y ∙ k)

pub add_number_high : (x y : Float) → le nought x ≡ true → le nought y ≡ true → is_nan (add binary64 x y) ≡ false
unfolding add is_nan
add_number_high x y h k = go (ordered nought x h) (ordered nought y k) (le_some_right nought y k)
  where
    go : {x y : Float} → Ordered nought x → Ordered nought y → is_nan y ≡ false → is_nan (add binary64 x y) ≡ false
    go (top i) (top j) q = refl
    go (top i) (inside j) q = refl
    go {y} (inside {t = t} {n = n} {d = d} i) j q = add_number (fin t n d) y refl q

-- ---- what is at least zero adds to a value that fits
-- such a value is rounded to itself
round_back : (s : Bool) (m : ℕ) (e : ℤ) → T (fits binary64 (fin s m e)) → HasValue (round binary64 s (m * up e) (down e)) s (m * up e) (down e)
round_back s m (pos k) t = rw div-one at (cut_exact s s m (pos k) t)
round_back s m (negsuc k) t =
    let w = held s m (negsuc k) t in
    rw (mul-one m) (round_dyadic s m (2 ^ suc k) m (suc k) (pow_pos (suc k)) w.0 (⊎_elim (λ g. absurd (not-le_of_lt (pow-lt g) w.2)) (λ l. l) (lt_or_ge 1074 (suc k))) refl)

value_le : (s : Bool) (m : ℕ) (e : ℤ) (x : Float) → HasValue x s (m * up e) (down e) → le (fin s m e) x ≡ true
value_le s m e nan v = elim v [ ]
value_le s m e (inf _) v = elim v [ ]
value_le s m e (fin t n d) v = inside_le s m e t n d (rw v.0 (level s))
  where
    level : (s : Bool) → AtMost s (m * up e) (down e) s (n * up d) (down d)
    level false = omega arith
    level true = omega arith

sum_nought : (s : Bool) (a c : ℕ) → 0 < c → le (round binary64 s a c) (sum binary64 s a false 0 c) ≡ true
sum_nought s a c C =
    let x = sum_rounded s a false 0 c in
    let i = ap (λ (z : ℕ). z * c) x.3 in
    rw x.2 (round_le s a c x.0 x.1 c C C (omega arith))

add_nought : (x : Float) → T (fits binary64 x) → is_nan x ≡ false → le x (add binary64 x nought) ≡ true
unfolding add
add_nought nan t h = absurd (true≢false (unfold is_nan in h))
add_nought (inf s) t h = le_self (inf s) h
add_nought (fin s m e) t h =
    le_trans (fin s m e) (round binary64 s (m * up e) (down e)) (add binary64 (fin s m e) nought) (value_le s m e (round binary64 s (m * up e) (down e)) (round_back s m e t))
    (rw (mul-one (m * up e), mul-one (down e), zero-mul (down e)) (sum_nought s (m * up e) (down e) (down_pos e)))

pub add_above : (x y : Float) → T (fits binary64 x) → le nought y ≡ true → is_nan (add binary64 x y) ≡ false → le x (add binary64 x y) ≡ true
add_above x y t h k =
    let p = add_some x y k in
    le_trans x (add binary64 x nought) (add binary64 x y) (add_nought x t p) (add_mono x x nought y (le_self x p) h (number_add x nought p refl) k)

pub add_above_left : (x y : Float) → T (fits binary64 x) → le nought x ≡ true → le nought y ≡ true → le x (add binary64 x y) ≡ true
add_above_left x y t h k = add_above x y t k (add_number_high x y h k)

pub add_above_right : (x y : Float) → T (fits binary64 y) → le nought x ≡ true → le nought y ≡ true → le y (add binary64 x y) ≡ true
add_above_right x y t h k = rw (add_commutes x y) (add_above_left y x t k h)

pub add_high : (x y : Float) → le nought x ≡ true → le nought y ≡ true → le nought (add binary64 x y) ≡ true
add_high x y h k = rw no_sum at (add_mono nought x nought y h k (add_number nought nought refl (unfold is_nan in refl)) (add_number_high x y h k))
  where
    no_sum : add binary64 nought nought ≡ nought
    no_sum = unfold add in refl
