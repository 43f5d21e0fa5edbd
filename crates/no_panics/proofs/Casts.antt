-- Within the limits of a question no corner of a sweep is a NaN or an infinity, and every quotient that is cast stays below 2^52 in size. Assumes nothing.
use mathlib.Core.Path.{◌≡◌, refl, subst}
use Prim.Native.Nat.{zero, suc, ◌*◌}
use mathlib.Core.Bool.{Bool, true, false, not, cond, ◌&&◌, ◌||◌, true≢false, false≢true}
use mathlib.Core.List.{List, [], ◌∷◌, ◌++◌}
use mathlib.Core.Option.{Option, none, some}
use lib.IntN.{ℤ, pos, negsuc, ◌+ℤ◌}
use lib.Dec.{T, eqb-suc-zero}
use lib.Ieee.{Float, nan, inf, fin, binary64, up, down, unlike, add, sub, mul, div, neg, lt, le, is_nan, of_int}
use lib.Ieee.Fits.{and_l, and_r}
use lib.Ieee.Scale.{finite}
use Rattle.ieee.specs.Constants.{nought, pow2}
use Rattle.ieee.specs.Pick.{abs_f, min_f, max_f}
use Rattle.ieee.proofs.Signs.{zero_not_above}
use Rattle.ieee.proofs.Compare.{round_number}
use Rattle.ieee.proofs.Monotone.{le_trans, le_lt_trans, lt_le_trans, neg_low, finite_between}
use Rattle.model.specs.Limits.{least_size, most_size, max_query}
use Rattle.model.specs.Plane.{Pt, minus, norm, tiny}
use Rattle.model.specs.Segment.{Seg, vertical_at, check_min, check_max}
use Rattle.model.specs.Shape.{Strip, strip_of, ends, sides, lesser, greater, leftmost, rightmost, ends_in, sides_at, heights, search, point, square, circle, sweep}
use Rattle.model.specs.Refusal.{bad_size, bad_number, bad_length, bad_point, is_due, refuse_asking}
use Rattle.model.specs.Refusal as model
use Rattle.model.proofs.MapLaws.{T→true}
use Rattle.model.proofs.TestLaws.{not_false}
use Rattle.model.proofs.DueLaws.{passed}
use Rattle.no_panics.specs.Casts.{Casts, BoxCasts, PointCasts, Finite, StripCasts, QuestionSafe, AnsweredSafe}
use Rattle.ieee.proofs.Within.{Within, abs_within, within_finite, within_wide, within_abs, within_add, within_sub, within_div}
use Rattle.no_panics.proofs.Ladder.{corner_most, span_rise}
use Rattle.no_panics.proofs.Strips.{Kept, Corners, corners}
use Rattle.no_panics.proofs.Crossings.{AllWithin, corner_wide, crossing}

-- ---- the limits, as orders of floats
pub record Size (c : Float) : Type 0 where
  pub least : le least_size c ≡ true
  pub most : le c most_size ≡ true

pub record Place (p : Pt) : Type 0 where
  pub x : le (abs_f p.x) max_query ≡ true
  pub y : le (abs_f p.y) max_query ≡ true

-- a width, or a radius
pub record Length (w : Float) : Type 0 where
  pub least : le nought w ≡ true
  pub most : le w max_query ≡ true

-- ---- a value within 511 * 2^33, by a cell size of at least 2^-10
pub size_finite : (c : Float) → Size c → finite c ≡ true
size_finite c s = finite_between least_size c most_size refl refl s.least s.most

pub least_above : lt nought least_size ≡ true
unfolding lt
least_above = refl

rise_high : le nought span_rise ≡ true
unfolding lt le
rise_high = refl

quotient_most : (le (div binary64 span_rise least_size) (fin false 511 (pos 43)) ≡ true) × (lt (fin false 511 (pos 43)) (pow2 52) ≡ true)
unfolding div lt le
quotient_most = (refl, refl)

cast : (c v : Float) → Size c → Within span_rise v → Casts (div binary64 v c)
cast c v s w =
    let q = within_div span_rise least_size (fin false 511 (pos 43)) v c refl refl (size_finite c s) rise_high least_above quotient_most.0 w s.least in
    le_lt_trans (abs_f (div binary64 v c)) (fin false 511 (pos 43)) (pow2 52) (within_abs (fin false 511 (pos 43)) (div binary64 v c) q) quotient_most.1

-- ---- the limits as enclosures
place_kept : (p : Pt) → Place p → Kept (pow2 40) p
place_kept p h = (abs_within (pow2 40) p.x h.x, abs_within (pow2 40) p.y h.y)

length_within : (w : Float) → Length w → Within (pow2 40) w
length_within w h = (le_trans (neg (pow2 40)) nought w (neg_low (pow2 40) (le_trans nought w (pow2 40) h.least h.most)) h.least, h.most)

halved : (le (div binary64 (pow2 40) (pow2 1)) (pow2 39) ≡ true) × (le nought (pow2 40) ≡ true) × (lt nought (pow2 1) ≡ true) × (le (pow2 1) (pow2 1) ≡ true)
unfolding div lt le
halved = (refl, refl, refl, refl)

half_within : (w : Float) → Length w → Within (pow2 39) (div binary64 w (pow2 1))
half_within w h = within_div (pow2 40) (pow2 1) (pow2 39) w (pow2 1) refl refl refl halved.1 halved.2 halved.0 (length_within w h) halved.3

-- ---- `Cell::from_point`
query_wide : (le (pow2 40) span_rise ≡ true) × (le (pow2 39) (pow2 40) ≡ true)
unfolding lt le
query_wide = (refl, refl)

pub point_casts : (c : Float) (p : Pt) → Size c → Place p → PointCasts c p
point_casts c p s h =
    let k = place_kept p h in
    record { column = cast c p.x s (within_wide (pow2 40) span_rise p.x query_wide.0 k.0); row = cast c p.y s (within_wide (pow2 40) span_rise p.y query_wide.0 k.1) }

-- ---- squares and circles
box_most : (le (add binary64 (pow2 40) (pow2 40)) span_rise ≡ true) × (le (neg span_rise) (add binary64 (neg (pow2 40)) (neg (pow2 40))) ≡ true)
unfolding add neg lt le
box_most = (refl, refl)

box_casts : (c : Float) (p : Pt) (d : Float) → Size c → Place p → Within (pow2 40) d → BoxCasts c p d
box_casts c p d s h w =
    let k = place_kept p h in
    record {
      left = cast c (sub binary64 p.x d) s (within_sub (pow2 40) (pow2 40) span_rise p.x d refl refl box_most.0 box_most.1 k.0 w);
      right = cast c (add binary64 p.x d) s (within_add (pow2 40) (pow2 40) span_rise p.x d refl refl box_most.0 box_most.1 k.0 w);
      bottom = cast c (sub binary64 p.y d) s (within_sub (pow2 40) (pow2 40) span_rise p.y d refl refl box_most.0 box_most.1 k.1 w);
      top = cast c (add binary64 p.y d) s (within_add (pow2 40) (pow2 40) span_rise p.y d refl refl box_most.0 box_most.1 k.1 w);
    }

-- `is_square_occupied`, of half its width
pub square_casts : (c : Float) (p : Pt) (width : Float) → Size c → Place p → Length width → BoxCasts c p (div binary64 width (pow2 1))
square_casts c p width s h l = box_casts c p (div binary64 width (pow2 1)) s h (within_wide (pow2 39) (pow2 40) (div binary64 width (pow2 1)) query_wide.1 (half_within width l))

-- `is_circle_occupied`
pub circle_casts : (c : Float) (p : Pt) (r : Float) → Size c → Place p → Length r → BoxCasts c p r
circle_casts c p r s h l = box_casts c p r s h (length_within r l)

-- ---- the lines of a column are numbers
int_number : (z : ℤ) → is_nan (of_int binary64 z) ≡ false
unfolding of_int
int_number (pos n) = round_number false n 1
int_number (negsuc n) = round_number true (suc n) 1

line_number : (x c : Float) → is_nan x ≡ false → finite c ≡ true → lt nought c ≡ true → is_nan (mul binary64 x c) ≡ false
unfolding mul is_nan
line_number x nan n f h = absurd (false≢true f)
line_number x (inf t) n f h = absurd (false≢true f)
line_number nan (fin t k d) n f h = absurd (true≢false n)
line_number (inf s) (fin t zero d) n f h = absurd (zero_not_above t d h)
line_number (inf s) (fin t (suc k) d) n f h = rw (eqb-suc-zero k) refl
line_number (fin s m e) (fin t k d) n f h = round_number (unlike s t) (m * up e * (k * up d)) (down e * down d)

-- ---- lists of values
append : (l m : List Float) → AllWithin l → AllWithin m → AllWithin (l ++ m)
append [] m v w = w
append (a ∷ l) m v w = (v.0, append l m v.1 w)

abbrev AllKept : List Pt → Type 0
AllKept [] = Unit {0}
AllKept (p ∷ l) = Kept corner_most p × AllKept l

ends_within : (l : List Pt) (lo hi : Float) → AllKept l → AllWithin (ends_in l lo hi)
unfolding ends_in
ends_within [] lo hi k = tt
ends_within (p ∷ l) lo hi k = go (le lo p.x && le p.x hi) (ends_within l lo hi k.1)
  where
    go : (b : Bool) → AllWithin (ends_in l lo hi) → AllWithin (cond b (p.y ∷ ends_in l lo hi) (ends_in l lo hi))
    go true r = (within_wide corner_most span_rise p.y corner_wide k.0.1, r)
    go false r = r

abbrev SidesKept : List Seg → Type 0
SidesKept [] = Unit {0}
SidesKept (s ∷ l) = (Kept corner_most s.p0 × Kept corner_most s.p1) × SidesKept l

sides_within_lem : (l : List Seg) (x : Float) → is_nan x ≡ false → SidesKept l → AllWithin (sides_at l x)
unfolding sides_at
sides_within_lem [] x n k = tt
sides_within_lem (s ∷ l) x n k = append (vertical_at s x) (sides_at l x) (crossing s x n k.0.0 k.0.1) (sides_within_lem l x n k.1)

-- ---- the least and the greatest of them
abbrev Some : Option Float → Type 0
Some none = Unit {0}
Some (some v) = Within span_rise v

search_within : (check : Option Float → Float → Option Float) → ((o : Option Float) (a : Float) → Some o → Within span_rise a → Some (check o a)) → (o : Option Float) (l : List Float) → Some o → AllWithin l → Some (search check o l)
unfolding search
search_within check f o [] s w = s
search_within check f o (a ∷ l) s w = search_within check f (check o a) l (f o a s w.0) w.1

pick : (b : Bool) (u v : Float) → Within span_rise u → Within span_rise v → Within span_rise (cond b u v)
pick true u v p q = p
pick false u v p q = q

min_within : (o : Option Float) (a : Float) → Some o → Within span_rise a → Some (check_min o a)
unfolding min_f
min_within none a s w = w
min_within (some v) a s w = pick (is_nan v) a (cond (lt a v) a v) w (pick (lt a v) a v w s)

max_within : (o : Option Float) (a : Float) → Some o → Within span_rise a → Some (check_max o a)
unfolding max_f
max_within none a s w = w
max_within (some v) a s w = pick (is_nan v) a (cond (lt v a) a v) w (pick (lt v a) a v w s)

-- ---- `is_sweep_occupied`
module _ (c : Float) (q : Strip) (s : Size c) (k : Corners q) where
  at_line : (z : ℤ) → is_nan (mul binary64 (of_int binary64 z) c) ≡ false
  at_line z = line_number (of_int binary64 z) c (int_number z) (size_finite c s) (lt_le_trans nought least_size c least_above s.least)

  heights_within : (j : ℤ) → AllWithin (heights c q j)
  heights_within j =
      let l = mul binary64 (of_int binary64 j) c in
      let r = mul binary64 (of_int binary64 (j +ℤ pos 1)) c in
      let four : SidesKept (sides q) = ((k.a, k.b), ((k.a, k.c), ((k.b, k.d), ((k.c, k.d), tt)))) in
      append (ends_in (ends q) l r ++ sides_at (sides q) l) (sides_at (sides q) r)
      (append (ends_in (ends q) l r) (sides_at (sides q) l) (ends_within (ends q) l r (k.a, (k.b, (k.c, (k.d, tt))))) (sides_within_lem (sides q) l (at_line j) four))
      (sides_within_lem (sides q) r (at_line (j +ℤ pos 1)) four)

  wide : (v : Float) → Within corner_most v → Within span_rise v
  wide v w = within_wide corner_most span_rise v corner_wide w

  least_of : (a b : Float) → Within span_rise a → Within span_rise b → Within span_rise (lesser a b)
  least_of a b v w = pick (lt b a) b a w v

  most_of : (a b : Float) → Within span_rise a → Within span_rise b → Within span_rise (greater a b)
  most_of a b v w = pick (lt b a) a b v w

  left_within : Within span_rise (leftmost q)
  unfolding leftmost
  left_within =
      least_of (lesser (lesser q.a.x q.b.x) q.c.x) q.d.x
      (least_of (lesser q.a.x q.b.x) q.c.x (least_of q.a.x q.b.x (wide q.a.x k.a.0) (wide q.b.x k.b.0)) (wide q.c.x k.c.0)) (wide q.d.x k.d.0)

  right_within : Within span_rise (rightmost q)
  unfolding rightmost
  right_within =
      most_of (greater (greater q.a.x q.b.x) q.c.x) q.d.x
      (most_of (greater q.a.x q.b.x) q.c.x (most_of q.a.x q.b.x (wide q.a.x k.a.0) (wide q.b.x k.b.0)) (wide q.c.x k.c.0)) (wide q.d.x k.d.0)

  finite_at : (p : Pt) → Kept corner_most p → Finite p
  finite_at p w = record { x = within_finite corner_most p.x refl w.0; y = within_finite corner_most p.y refl w.1 }

  strip_casts : StripCasts c q
  strip_casts =
      record {
        a = finite_at q.a k.a;
        b = finite_at q.b k.b;
        c' = finite_at q.c k.c;
        d = finite_at q.d k.d;
        left = cast c (leftmost q) s left_within;
        right = cast c (rightmost q) s right_within;
        low = λ j v e. cast c v s (subst Some e (search_within check_min min_within none (heights c q j) tt (heights_within j)));
        high = λ j v e. cast c v s (subst Some e (search_within check_max max_within none (heights c q j) tt (heights_within j)));
      }

-- where the strip is built: the segment is not shorter than 1e-8
pub sweep_casts : (c : Float) (p0 p1 : Pt) (width : Float) → Size c → Place p0 → Place p1 → Length width → lt (norm (minus p1 p0)) tiny ≡ false → StripCasts c (strip_of p0 p1 (div binary64 width (pow2 1)))
sweep_casts c p0 p1 width s v w l h =
    let half = div binary64 width (pow2 1) in
    strip_casts c (strip_of p0 p1 half) s (corners p0 p1 half (place_kept p0 v) (place_kept p1 w) (half_within width l) h)

-- ---- what is not refused lies within the limits
pub or_no : (a b : Bool) → a || b ≡ false → (a ≡ false) × (b ≡ false)
or_no true b e = absurd (true≢false e)
or_no false b e = (refl, e)

pub size_of : (c : Float) → bad_size c ≡ false → Size c
unfolding bad_size
size_of c e =
    let t = not_false (model.finite c && le least_size c && le c most_size) e in
    record { least = T→true (le least_size c) (and_r (model.finite c) (le least_size c) (and_l (model.finite c && le least_size c) (le c most_size) t)); most = T→true (le c most_size) (and_r (model.finite c && le least_size c) (le c most_size) t) }

number_of : (z : Float) → bad_number z ≡ false → le (abs_f z) max_query ≡ true
unfolding bad_number
number_of z e = T→true (le (abs_f z) max_query) (and_r (model.finite z) (le (abs_f z) max_query) (not_false (model.finite z && le (abs_f z) max_query) e))

place_of : (p : Pt) → bad_point p ≡ false → Place p
place_of p e = let r = or_no (bad_number p.x) (bad_number p.y) e in record { x = number_of p.x r.0; y = number_of p.y r.1 }

length_of_lem : (w : Float) → bad_length w ≡ false → Length w
unfolding bad_length
length_of_lem w e =
    let r = or_no (bad_number w) (not (le nought w)) e in
    record { least = T→true (le nought w) (not_false (le nought w) r.1); most = (abs_within max_query w (number_of w r.0)).1 }

pub question_safe : QuestionSafe
unfolding model.bad_question
question_safe c (point p) l = point_casts c p (size_of c l.0) (place_of p l.1)
question_safe c (square p w) l = let r = or_no (bad_point p) (bad_length w) l.1 in square_casts c p w (size_of c l.0) (place_of p r.0) (length_of_lem w r.1)
question_safe c (circle p w) l = let r = or_no (bad_point p) (bad_length w) l.1 in circle_casts c p w (size_of c l.0) (place_of p r.0) (length_of_lem w r.1)
question_safe c (sweep p q w) l =
    let r = or_no (bad_point p || bad_point q) (bad_length w) l.1 in
    let s = or_no (bad_point p) (bad_point q) r.0 in
    let k = size_of c l.0 in
    (λ h. point_casts c p k (place_of p s.0), λ h. sweep_casts c p q w k (place_of p s.0) (place_of q s.1) (length_of_lem w r.1) h)

pub answered_safe : AnsweredSafe
unfolding refuse_asking is_due
answered_safe lent m q e = let p = passed _ e in question_safe m.size q (p 1 tt, p 8 tt)
