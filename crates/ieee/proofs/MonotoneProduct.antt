-- `mul` by what is at least zero keeps the order, and by what is at most zero turns it round; squares grow with the size of their root; where no NaN comes of a product. Assumes nothing.
use Rattle.std.proofs.Common.{◌≡◌, ℕ, zero, suc, ◌*◌, ◌<◌, Bool, true, false, cond, not, eqb, ℤ, refl, ap, ◌∙◌, true≢false, zero-lt-suc, mul_comm, mul-pos, mul-zero, arith}
use mathlib.Core.Bool.{false≢true}
use lib.Dec.{eqb-suc-zero}
use lib.Ieee.{Float, nan, inf, fin, binary64, up, down, unlike, neg, mul, le, is_nan}
use lib.Ieee.Fits.{up_pos, down_pos}
use lib.Ieee.Scale.{finite}
use Rattle.ieee.specs.Constants.{nought}
use Rattle.ieee.proofs.Compare.{round_number}
use Rattle.ieee.proofs.Patterns.{le_some_right}
use Rattle.ieee.proofs.Dyadic.{unlike_right}
use Rattle.ieee.proofs.Monotone.{AtMost, at_most_scale, at_most_zero, Ordered, bottom, top, inside, ordered, bottom_le, le_top, le_trans, neg_neg, neg_number, neg_anti, neg_high, round_neg, round_high, round_le, finite_between}

-- ---- the factors' order, and their signs
unlike_comm : (s t : Bool) → unlike s t ≡ unlike t s
unlike_comm true true = refl
unlike_comm true false = refl
unlike_comm false true = refl
unlike_comm false false = refl

unlike_not : (s t : Bool) → unlike (not s) t ≡ not (unlike s t)
unlike_not true true = refl
unlike_not true false = refl
unlike_not false true = refl
unlike_not false false = refl

unlike_self : (s : Bool) → unlike s s ≡ false
unlike_self true = refl
unlike_self false = refl

pub mul_commutes : (x y : Float) → mul binary64 x y ≡ mul binary64 y x
unfolding mul
mul_commutes nan nan = refl
mul_commutes nan (inf t) = refl
mul_commutes nan (fin t n d) = refl
mul_commutes (inf s) nan = refl
mul_commutes (inf s) (inf t) = ap inf (unlike_comm s t)
mul_commutes (inf s) (fin t n d) = ap (λ (z : Bool). cond (eqb n 0) nan (inf z)) (unlike_comm s t)
mul_commutes (fin s m e) nan = refl
mul_commutes (fin s m e) (inf t) = ap (λ (z : Bool). cond (eqb m 0) nan (inf z)) (unlike_comm s t)
mul_commutes (fin s m e) (fin t n d) = rw (unlike_comm s t, mul_comm (m * up e) (n * up d), mul_comm (down e) (down d))

pick_neg : (b s t : Bool) → cond b nan (inf (unlike (not s) t)) ≡ neg (cond b nan (inf (unlike s t)))
unfolding neg
pick_neg true s t = refl
pick_neg false s t = ap inf (unlike_not s t)

pub mul_neg : (x y : Float) → mul binary64 (neg x) y ≡ neg (mul binary64 x y)
unfolding mul neg
mul_neg nan y = refl
mul_neg (inf s) nan = refl
mul_neg (inf s) (inf t) = ap inf (unlike_not s t)
mul_neg (inf s) (fin t n d) = pick_neg (eqb n 0) s t
mul_neg (fin s m e) nan = refl
mul_neg (fin s m e) (inf t) = pick_neg (eqb m 0) s t
mul_neg (fin s m e) (fin t n d) = rw (unlike_not s t) (round_neg (unlike s t) (m * up e * (n * up d)) (down e * down d))

pub square_neg : (x : Float) → mul binary64 (neg x) (neg x) ≡ mul binary64 x x
square_neg x = mul_neg x (neg x) ∙ ap neg (mul_commutes x (neg x) ∙ mul_neg x x) ∙ neg_neg (mul binary64 x x)

-- ---- no NaN comes of two finite values, nor of a square
pub mul_number : (x y : Float) → finite x ≡ true → finite y ≡ true → is_nan (mul binary64 x y) ≡ false
unfolding mul is_nan
mul_number nan y h k = absurd (false≢true h)
mul_number (inf s) y h k = absurd (false≢true h)
mul_number (fin s m e) nan h k = absurd (false≢true k)
mul_number (fin s m e) (inf t) h k = absurd (false≢true k)
mul_number (fin s m e) (fin t n d) h k = round_number (unlike s t) (m * up e * (n * up d)) (down e * down d)

-- a square is at least zero
pub square_high : (x : Float) → is_nan x ≡ false → le nought (mul binary64 x x) ≡ true
unfolding mul is_nan
square_high nan h = absurd (true≢false h)
square_high (inf s) h = rw (unlike_self s) (le_top nought refl)
square_high (fin s m e) h = rw (unlike_self s) (round_high false (m * up e * (m * up e)) (down e * down e) (mul-pos (down_pos e) (down_pos e)) refl)

pub square_number : (x : Float) → is_nan x ≡ false → is_nan (mul binary64 x x) ≡ false
square_number x h = le_some_right nought (mul binary64 x x) (square_high x h)

-- ---- the order
-- an infinity times a finite value that is not zero
nonzero : (k : ℕ) (s : Bool) → is_nan (cond (eqb k 0) nan (inf s)) ≡ false → (0 < k) × (cond (eqb k 0) nan (inf s) ≡ inf s)
unfolding is_nan
nonzero zero s h = absurd (true≢false h)
nonzero (suc k) s h = (zero-lt-suc k, rw (eqb-suc-zero k))

not_zero : (k : ℕ) (g : ℤ) → 0 < k → k * up g ≡ 0 → ⊥
not_zero k g h e = let i = mul-pos h (up_pos g) in omega arith

-- an infinity times what is at least zero
far : {u : Float} (t : Bool) → Ordered nought u → is_nan (mul binary64 (inf t) u) ≡ false → mul binary64 (inf t) u ≡ inf t
unfolding mul
far t (top i) h = ap inf (unlike_right t)
far t (inside {t = false} {n = k} i) h = (nonzero k (unlike t false) h).1 ∙ ap inf (unlike_right t)
far t (inside {t = true} {n = k} {d = g} i) h = absurd (not_zero k g (nonzero k (unlike t true) h).0 (at_most_zero 0 1 (k * up g) (down g) (zero-lt-suc 0) (down_pos g) i).1)

-- two finite values times an infinity
apart : (s : Bool) (m : ℕ) (e : ℤ) (t : Bool) (n : ℕ) (d : ℤ) → AtMost s (m * up e) (down e) t (n * up d) (down d)
    → is_nan (mul binary64 (fin s m e) (inf false)) ≡ false → is_nan (mul binary64 (fin t n d) (inf false)) ≡ false → le (mul binary64 (fin s m e) (inf false)) (mul binary64 (fin t n d) (inf false)) ≡ true
unfolding mul
apart true m e t n d i p q = rw (nonzero m true p).1 (bottom_le _ q)
apart false m e false n d i p q = rw (nonzero n false q).1 (le_top _ p)
apart false m e true n d i p q = absurd (not_zero m e (nonzero m false p).0 (at_most_zero (m * up e) (down e) (n * up d) (down d) (down_pos e) (down_pos d) i).0)

-- both times ±k / g, which is at least zero: a negative sign stands only at a zero
at_most_times : (s : Bool) (a c : ℕ) (t : Bool) (b d : ℕ) (w : Bool) (k g : ℕ) → 0 < g → AtMost false 0 1 w k g → AtMost s a c t b d → AtMost (unlike s w) (a * k) (c * g) (unlike t w) (b * k) (d * g)
at_most_times s a c t b d false k g G i h = rw (unlike_right s, unlike_right t) (at_most_scale s a c t b d k g k g refl h)
at_most_times s a c t b d true k g G i h = rw ((at_most_zero 0 1 k g (zero-lt-suc 0) G i).1, mul-zero a, mul-zero b) (none (unlike s true) (unlike t true))
  where
    none : (s t : Bool) → AtMost s 0 (c * g) t 0 (d * g)
    none true true = omega arith
    none true false = omega arith
    none false true = omega arith
    none false false = omega arith

pub mul_mono_right : (u a b : Float) → le nought u ≡ true → le a b ≡ true → is_nan (mul binary64 a u) ≡ false → is_nan (mul binary64 b u) ≡ false → le (mul binary64 a u) (mul binary64 b u) ≡ true
unfolding mul
mul_mono_right u a b h k = go (ordered a b k) (ordered nought u h)
  where
    go : {u a b : Float} → Ordered a b → Ordered nought u → is_nan (mul binary64 a u) ≡ false → is_nan (mul binary64 b u) ≡ false → le (mul binary64 a u) (mul binary64 b u) ≡ true
    go (bottom j) i p q = rw (far true i p) (bottom_le _ q)
    go (top j) i p q = rw (far false i q) (le_top _ p)
    go (inside {s = s} {m = m} {e = e} {t = t} {n = n} {d = d} j) (top i) p q = apart s m e t n d j p q
    go (inside {s = s} {m = m} {e = e} {t = t} {n = n} {d = d} j) (inside {t = w} {n = k} {d = g} i) p q =
        round_le (unlike s w) (m * up e * (k * up g)) (down e * down g) (unlike t w) (n * up d * (k * up g)) (down d * down g) (mul-pos (down_pos e) (down_pos g)) (mul-pos (down_pos d) (down_pos g))
        (at_most_times s (m * up e) (down e) t (n * up d) (down d) w (k * up g) (down g) (down_pos g) i j)

pub mul_mono : (u a b : Float) → le nought u ≡ true → le a b ≡ true → is_nan (mul binary64 u a) ≡ false → is_nan (mul binary64 u b) ≡ false → le (mul binary64 u a) (mul binary64 u b) ≡ true
mul_mono u a b h k = rw (mul_commutes u a, mul_commutes u b) (mul_mono_right u a b h k)

pub mul_anti : (u a b : Float) → le u nought ≡ true → le a b ≡ true → is_nan (mul binary64 u a) ≡ false → is_nan (mul binary64 u b) ≡ false → le (mul binary64 u b) (mul binary64 u a) ≡ true
mul_anti u a b h k p q =
    rw (neg_neg (mul binary64 u a), neg_neg (mul binary64 u b))
    at (neg_anti (neg (mul binary64 u a)) (neg (mul binary64 u b))
    (rw (mul_neg u a, mul_neg u b) at (mul_mono (neg u) a b (neg_high u h) k (turned a p) (turned b q))))
  where
    turned : (y : Float) → is_nan (mul binary64 u y) ≡ false → is_nan (mul binary64 (neg u) y) ≡ false
    turned y p = ap is_nan (mul_neg u y) ∙ neg_number (mul binary64 u y) ∙ p

-- ---- squares
pub square_mono : (a b : Float) → le nought a ≡ true → le a b ≡ true → le (mul binary64 a a) (mul binary64 b b) ≡ true
unfolding mul
square_mono a b h k = let l = le_trans nought a b h k in go (ordered nought b l) l k
  where
    go : {b : Float} → Ordered nought b → le nought b ≡ true → le a b ≡ true → le (mul binary64 a a) (mul binary64 b b) ≡ true
    go (top i) l k = le_top (mul binary64 a a) (square_number a (le_some_right nought a h))
    go (inside {t = t} {n = n} {d = d} i) l k =
        let b = fin t n d in
        let f = finite_between nought a b refl refl h k in
        let p = mul_number b a refl f in
        le_trans (mul binary64 a a) (mul binary64 b a) (mul binary64 b b) (mul_mono_right a a b h k (mul_number a a f f) p) (mul_mono b a b l k p (mul_number b b refl refl))

pub square_anti : (a b : Float) → le nought a ≡ true → le b (neg a) ≡ true → le (mul binary64 a a) (mul binary64 b b) ≡ true
square_anti a b h k = rw (square_neg b) at (square_mono a (neg b) h (rw (neg_neg a) at (neg_anti b (neg a) k)))
