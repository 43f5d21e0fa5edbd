-- A sweep's strip within the query limits: its corners lie within 7 * 2^38, and where its sides cross a line, within 511 * 2^33. Assumes nothing.
use mathlib.Core.Path.{◌≡◌, refl}
use mathlib.Core.Bool.{Bool, true, false}
use lib.IntN.{pos}
use lib.Dec.{T}
use lib.Ieee.{Float, fin, binary64, add, mul, div, neg, lt, le, is_nan, fits, of_bits}
use lib.Ieee.Fits.{add-fits, mul-fits}
use lib.Ieee.Scale.{finite}
use Rattle.ieee.specs.Constants.{nought, pow2}
use Rattle.ieee.specs.Pick.{abs_f}
use Rattle.ieee.specs.Root.{root_f}
use Rattle.ieee.proofs.Patterns.{le_some_right, lt_le}
use Rattle.ieee.proofs.Monotone.{le_trans, le_self, le_lt, not_le_lt, not_lt_le, finite_number, finite_between}
use Rattle.ieee.proofs.MonotoneSum.{add_above_left, add_above_right, add_high}
use Rattle.ieee.proofs.MonotoneProduct.{square_high, square_mono}
use Rattle.ieee.proofs.RootOrder.{root_mono}
use Rattle.model.specs.Plane.{Pt, plus, minus, times, over, dot, norm, turned, tiny}
use Rattle.model.specs.Shape.{Strip, strip_of}
use Rattle.ieee.proofs.Within.{Within, abs_high, abs_square, abs_within, within_number, within_neg, within_abs, within_add, within_sub, within_mul, within_div}
use Rattle.no_panics.proofs.Ladder.{Rung, unit_step, unit_of_lem, unit_rung, slack, corner_most}

-- both coordinates of a point
abbrev pub Kept : Float → Pt → Type 0
Kept B p = Within B p.x × Within B p.y

-- ---- tiny
pub tiny_finite : finite tiny ≡ true
unfolding tiny of_bits
tiny_finite = refl

pub tiny_above : lt nought tiny ≡ true
unfolding tiny of_bits lt
tiny_above = refl

tiny_ratio : le (div binary64 tiny tiny) slack ≡ true
unfolding tiny of_bits div lt le
tiny_ratio = refl

-- ---- a part of a vector by its length
unit : (z d : Float) → Within (pow2 41) z → T (fits binary64 d) → le (mul binary64 z z) d ≡ true → finite (root_f d) ≡ true → le tiny (root_f d) ≡ true → Within slack (div binary64 z (root_f d))
unit z d w t h f k = go (le (abs_f z) tiny) refl
  where
    n : is_nan z ≡ false
    n = within_number (pow2 41) z w

    high : le nought (abs_f z) ≡ true
    high = abs_high z n

    at : Rung unit_step (abs_f z) → Within slack (div binary64 z (root_f d))
    at r =
        let a = r.below in
        let b = r.above in
        let u = unit_of_lem a b r.step in
        let g : le (mul binary64 a a) (mul binary64 z z) ≡ true = rw (abs_square z n) at (square_mono a (abs_f z) (lt_le nought a u.positive) r.low) in
        let q = root_mono (mul binary64 a a) d (mul-fits binary64 a a) t (le_lt nought (mul binary64 a a) (square_high a (finite_number a u.first))) (le_trans (mul binary64 a a) (mul binary64 z z) d g h) in
        within_div b (root_f (mul binary64 a a)) slack z (root_f d) u.second u.length_finite f (le_trans nought (abs_f z) b high r.high) u.length u.bound (abs_within b z r.high) q

    go : (b : Bool) → le (abs_f z) tiny ≡ b → Within slack (div binary64 z (root_f d))
    go true e = within_div tiny tiny slack z (root_f d) tiny_finite tiny_finite f (lt_le nought tiny tiny_above) tiny_above tiny_ratio (abs_within tiny z e) k
    go false e = at (unit_rung (abs_f z) (lt_le tiny (abs_f z) (not_le_lt (abs_f z) tiny (le_some_right nought (abs_f z) high) (finite_number tiny tiny_finite) e)) (within_abs (pow2 41) z w))

-- the length of a vector: finite, and the root of what is at least the square of each part
record Norm (v : Pt) : Type 0 where
  some : finite (norm v) ≡ true
  first : le (mul binary64 v.x v.x) (dot v v) ≡ true
  second : le (mul binary64 v.y v.y) (dot v v) ≡ true

squares : le (mul binary64 (pow2 41) (pow2 41)) (pow2 82) ≡ true
unfolding mul lt le
squares = refl

sums : (le (add binary64 (pow2 82) (pow2 82)) (pow2 83) ≡ true) × (le (neg (pow2 83)) (add binary64 (neg (pow2 82)) (neg (pow2 82))) ≡ true)
unfolding add neg lt le
sums = (refl, refl)

roots : (finite (root_f nought) ≡ true) × (finite (root_f (pow2 83)) ≡ true)
unfolding root_f
roots = (refl, refl)

held : T (fits binary64 nought) × T (fits binary64 (pow2 83))
unfolding fits
held = (tt, tt)

norms : (v : Pt) → Kept (pow2 41) v → Norm v
unfolding norm dot is_nan
norms v w =
    let xx = mul binary64 v.x v.x in
    let yy = mul binary64 v.y v.y in
    let a = within_mul (pow2 41) (pow2 41) (pow2 82) v.x v.x refl refl (le_trans nought (abs_f v.x) (pow2 41) (abs_high v.x (within_number (pow2 41) v.x w.0)) (within_abs (pow2 41) v.x w.0)) squares w.0 w.0 in
    let b = within_mul (pow2 41) (pow2 41) (pow2 82) v.y v.y refl refl (le_trans nought (abs_f v.y) (pow2 41) (abs_high v.y (within_number (pow2 41) v.y w.1)) (within_abs (pow2 41) v.y w.1)) squares w.1 w.1 in
    let s = within_add (pow2 82) (pow2 82) (pow2 83) xx yy refl refl sums.0 sums.1 a b in
    let p = square_high v.x (within_number (pow2 41) v.x w.0) in
    let q = square_high v.y (within_number (pow2 41) v.y w.1) in
    let z = add_high xx yy p q in
    let t = add-fits binary64 xx yy in
    record {
      some = finite_between (root_f nought) (root_f (add binary64 xx yy)) (root_f (pow2 83)) roots.0 roots.1
          (root_mono nought (add binary64 xx yy) held.0 t (le_lt nought nought (le_self nought refl)) z) (root_mono (add binary64 xx yy) (pow2 83) t held.1 (le_lt nought (add binary64 xx yy) z) s.1);
      first = add_above_left xx yy (mul-fits binary64 v.x v.x) p q;
      second = add_above_right xx yy (mul-fits binary64 v.y v.y) p q;
    }

-- ---- the corners
apart : (le (add binary64 (pow2 40) (pow2 40)) (pow2 41) ≡ true) × (le (neg (pow2 41)) (add binary64 (neg (pow2 40)) (neg (pow2 40))) ≡ true)
unfolding add neg lt le
apart = (refl, refl)

aside : le (mul binary64 slack (pow2 39)) (fin false 3 (pos 38)) ≡ true
unfolding mul lt le
aside = refl

slack_high : le nought slack ≡ true
unfolding lt le
slack_high = refl

beside : (le (add binary64 (pow2 40) (fin false 3 (pos 38))) corner_most ≡ true) × (le (neg corner_most) (add binary64 (neg (pow2 40)) (neg (fin false 3 (pos 38)))) ≡ true)
unfolding add neg lt le
beside = (refl, refl)

pub record Corners (q : Strip) : Type 0 where
  pub a : Kept corner_most q.a
  pub b : Kept corner_most q.b
  pub c : Kept corner_most q.c
  pub d : Kept corner_most q.d

kept_plus : (p n : Pt) → Kept (pow2 40) p → Kept (fin false 3 (pos 38)) n → Kept corner_most (plus p n)
unfolding plus
kept_plus p n v w = (
  within_add (pow2 40) (fin false 3 (pos 38)) corner_most p.x n.x refl refl beside.0 beside.1 v.0 w.0,
  within_add (pow2 40) (fin false 3 (pos 38)) corner_most p.y n.y refl refl beside.0 beside.1 v.1 w.1,
)

kept_minus : (p n : Pt) → Kept (pow2 40) p → Kept (fin false 3 (pos 38)) n → Kept corner_most (minus p n)
unfolding minus
kept_minus p n v w = (
  within_sub (pow2 40) (fin false 3 (pos 38)) corner_most p.x n.x refl refl beside.0 beside.1 v.0 w.0,
  within_sub (pow2 40) (fin false 3 (pos 38)) corner_most p.y n.y refl refl beside.0 beside.1 v.1 w.1,
)

between_ends : (p q : Pt) → Kept (pow2 40) p → Kept (pow2 40) q → Kept (pow2 41) (minus q p)
unfolding minus
between_ends p q v w = (
  within_sub (pow2 40) (pow2 40) (pow2 41) q.x p.x refl refl apart.0 apart.1 w.0 v.0,
  within_sub (pow2 40) (pow2 40) (pow2 41) q.y p.y refl refl apart.0 apart.1 w.1 v.1,
)

unit_over : (v : Pt) → Kept (pow2 41) v → lt (norm v) tiny ≡ false → Kept slack (over v (norm v))
unfolding over norm dot
unit_over v w h =
    let n = norms v w in
    let d = dot v v in
    let k = not_lt_le (norm v) tiny (finite_number (norm v) n.some) (finite_number tiny tiny_finite) h in
    let t = add-fits binary64 (mul binary64 v.x v.x) (mul binary64 v.y v.y) in
    (unit v.x d w.0 t n.first n.some k, unit v.y d w.1 t n.second n.some k)

turned_times : (v : Pt) (half : Float) → Kept slack v → Within (pow2 39) half → Kept (fin false 3 (pos 38)) (times (turned v) half)
unfolding times turned
turned_times v half w h = (
  within_mul slack (pow2 39) (fin false 3 (pos 38)) (neg v.y) half refl refl slack_high aside (within_neg slack v.y w.1) h,
  within_mul slack (pow2 39) (fin false 3 (pos 38)) v.x half refl refl slack_high aside w.0 h,
)

pub corners : (p0 p1 : Pt) (half : Float) → Kept (pow2 40) p0 → Kept (pow2 40) p1 → Within (pow2 39) half → lt (norm (minus p1 p0)) tiny ≡ false → Corners (strip_of p0 p1 half)
unfolding strip_of
corners p0 p1 half v w h l =
    let n = times (turned (over (minus p1 p0) (norm (minus p1 p0)))) half in
    let k = turned_times (over (minus p1 p0) (norm (minus p1 p0))) half (unit_over (minus p1 p0) (between_ends p0 p1 v w) l) h in
    record { a = kept_plus p0 n v k; b = kept_minus p0 n v k; c = kept_plus p1 n w k; d = kept_minus p1 n w k }
