-- The four tests, step for step as in sparse_grid.rs: each answers the first occupied cell, by x, then y, that qualifies. c is the cell size, C the occupied cells, ascending. Definitions only.
use Rattle.std.specs.Prelude.{◌≡◌, ℕ, ◌<◌, Bool, false, not, cond, ◌&&◌, ◌||◌, List, [], ◌∷◌, ◌++◌, T, eqb, ℤ, pos, ◌+ℤ◌, Float}
use Rattle.std.proofs.Math.Option.{Option, none, some}
use Rattle.std.specs.Int.Signed.{le_z, lt_z}
use Rattle.std.specs.Float.{binary64}
use Rattle.std.specs.Float.Ieee.{add, sub, mul, div, lt, le, of_int}
use Rattle.ieee.specs.Constants.{nought, pow2}
use Rattle.ieee.specs.Whole.{floor_z, ceil_z}
use Rattle.model.specs.Maps.{find, has}
use Rattle.model.specs.Cell.{x_of, y_of}
use Rattle.model.specs.Plane.{Pt, plus, minus, times, over, dot, norm, turned, tiny, root2, cell_of, centre, low_corner}
use Rattle.model.specs.Segment.{Seg, check_min, check_max, vertical_at}

-- what a test answers
pub record Found : Type 0 where
  pub cell : Option ℕ

-- `range(lo..hi)`
abbrev pub from : ℤ → ℤ → ℤ → Bool
from lo hi z = le_z lo z && lt_z z hi

-- ---- `is_point_occupied`
unfoldable pub point_test : Float → List ℕ → Pt → Found
point_test c C p = let k = cell_of c p in record { cell = cond (has k C) (some k) none }

-- ---- `is_square_occupied`: on each axis from floor((p - d)/c) up to but not including ceil((p + d)/c)
unfoldable pub low_end : Float → Float → Float → ℤ
low_end c d z = floor_z (div binary64 (sub binary64 z d) c)

unfoldable pub high_end : Float → Float → Float → ℤ
high_end c d z = ceil_z (div binary64 (add binary64 z d) c)

unfoldable pub in_box : Float → Pt → Float → ℕ → Bool
in_box c p d k = from (low_end c d p.x) (high_end c d p.x) (x_of k) && from (low_end c d p.y) (high_end c d p.y) (y_of k)

unfoldable pub square_test : Float → List ℕ → Pt → Float → Found
square_test c C p width = let d = div binary64 width (pow2 1) in record { cell = find (in_box c p d) C }

-- ---- `is_circle_occupied`
-- the closures `point_inside` and `line_inside`
unfoldable pub point_inside : Pt → Float → Pt → Bool
point_inside p r q = let dp = minus p q in lt (dot dp dp) (mul binary64 r r)

unfoldable pub line_inside : Pt → Float → Pt → Pt → Bool
line_inside p r p0 p1 =
    let v = minus p1 p0 in
    let length = norm v in
    let n = over v length in
    let s = dot (minus p p0) n in
    let dp = minus (plus p0 (times n s)) p in
    let foot = cond (le s nought || le length s) false (lt (dot dp dp) (mul binary64 r r)) in
    point_inside p r p0 || point_inside p r p1 || foot

unfoldable pub in_circle : Float → Pt → Float → ℕ → Bool
in_circle c p r k =
    let dp = minus p (centre c k) in
    let far = dot dp dp in
    let m = add binary64 r (div binary64 c (pow2 1)) in
    let n = add binary64 r (div binary64 (mul binary64 root2 c) (pow2 1)) in
    let line : ℤ → ℤ → ℤ → ℤ → Bool = λ i j i' j'. line_inside p r (low_corner c k i j) (low_corner c k i' j') in
    let right = line (pos 1) (pos 0) (pos 1) (pos 1) in
    let left = line (pos 0) (pos 0) (pos 0) (pos 1) in
    let top = line (pos 0) (pos 1) (pos 1) (pos 1) in
    let bottom = line (pos 0) (pos 0) (pos 1) (pos 0) in
    let sideways = cond (lt nought dp.x) right (lt dp.x nought && left) in
    let upward = cond (lt nought dp.y) top (lt dp.y nought && bottom) in
    let rest = lt far (mul binary64 m m) || (not (le (mul binary64 n n) far) && (sideways || upward)) in
    cond (in_box c p r k) rest false

unfoldable pub circle_test : Float → List ℕ → Pt → Float → Found
circle_test c C p r = record { cell = find (in_circle c p r) C }

-- ---- `is_sweep_occupied`
-- the four corners of the swept rectangle, and its four sides
pub record Strip : Type 0 where
  pub a : Pt
  pub b : Pt
  pub c : Pt
  pub d : Pt

unfoldable pub strip_of : Pt → Pt → Float → Strip
strip_of p0 p1 d =
    let v = over (minus p1 p0) (norm (minus p1 p0)) in
    let n = times (turned v) d in
    record { a = plus p0 n; b = minus p0 n; c = plus p1 n; d = minus p1 n }

abbrev pub ends : Strip → List Pt
ends q = q.a ∷ q.b ∷ q.c ∷ q.d ∷ []

abbrev pub sides : Strip → List Seg
sides q = record { p0 = q.a; p1 = q.b } ∷ record { p0 = q.a; p1 = q.c } ∷ record { p0 = q.b; p1 = q.d } ∷ record { p0 = q.c; p1 = q.d } ∷ []

-- `Iterator::min_by` and `max_by` over the x values: of equal ones the first, and the last
abbrev pub lesser : Float → Float → Float
lesser a b = cond (lt b a) b a

abbrev pub greater : Float → Float → Float
greater a b = cond (lt b a) a b

unfoldable pub leftmost : Strip → Float
leftmost q = lesser (lesser (lesser q.a.x q.b.x) q.c.x) q.d.x

unfoldable pub rightmost : Strip → Float
rightmost q = greater (greater (greater q.a.x q.b.x) q.c.x) q.d.x

-- the y values of the corners between lo and hi, and of the sides at x
unfoldable pub ends_in : List Pt → Float → Float → List Float
ends_in [] lo hi = []
ends_in (p ∷ l) lo hi = let r = ends_in l lo hi in cond (le lo p.x && le p.x hi) (p.y ∷ r) r

unfoldable pub sides_at : List Seg → Float → List Float
sides_at [] x = []
sides_at (s ∷ l) x = vertical_at s x ++ sides_at l x

-- those of the column x: the corners between its two lines, and the sides at each of them
abbrev pub heights : Float → Strip → ℤ → List Float
heights c q x =
    let left = mul binary64 (of_int binary64 x) c in
    let right = mul binary64 (of_int binary64 (x +ℤ pos 1)) c in
    ends_in (ends q) left right ++ sides_at (sides q) left ++ sides_at (sides q) right

-- `SearchF64` over them all
unfoldable pub search : (Option Float → Float → Option Float) → Option Float → List Float → Option Float
search check v [] = v
search check v (a ∷ l) = search check (check v a) l

-- the rows of a column, from the least and the greatest; none if there is no value
unfoldable pub row_in : Float → Option Float → Option Float → ℤ → Bool
row_in c none high z = false
row_in c (some low) none z = false
row_in c (some low) (some high) z = from (floor_z (div binary64 low c)) (ceil_z (div binary64 high c)) z

unfoldable pub in_column : Float → Strip → ℕ → Bool
in_column c q k = let ys = heights c q (x_of k) in row_in c (search check_min none ys) (search check_max none ys) (y_of k)

unfoldable pub in_strip : Float → Strip → ℕ → Bool
in_strip c q k =
    let rows = in_column c q k in
    cond (from (floor_z (div binary64 (leftmost q) c)) (ceil_z (div binary64 (rightmost q) c)) (x_of k)) rows false

-- a segment shorter than 1e-8 sweeps only the first point's cell, for any width
unfoldable pub sweep_test : Float → List ℕ → Pt → Pt → Float → Found
sweep_test c C p0 p1 width =
    let q = strip_of p0 p1 (div binary64 width (pow2 1)) in
    let long : Found = record { cell = find (in_strip c q) C } in
    let short = point_test c C p0 in
    cond (lt (norm (minus p1 p0)) tiny) short long

-- ---- one question with its shape and that shape's own lengths (RULES 2.4)
pub data Question : Type 0 where
  point : Pt → Question
  square : Pt → Float → Question
  circle : Pt → Float → Question
  sweep : Pt → Pt → Float → Question

unfoldable pub ask : Float → List ℕ → Question → Found
ask c C (point p) = point_test c C p
ask c C (square p w) = square_test c C p w
ask c C (circle p r) = circle_test c C p r
ask c C (sweep p q w) = sweep_test c C p q w

-- ---- what it means that a cell qualifies: each test answers the first occupied cell that does (proofs/QuestionLaws.antt)
unfoldable pub qualifies : Float → Question → ℕ → Bool
qualifies c (point p) k = eqb k (cell_of c p)
qualifies c (square p w) k = in_box c p (div binary64 w (pow2 1)) k
qualifies c (circle p r) k = in_circle c p r k
qualifies c (sweep p q w) k = cond (lt (norm (minus q p)) tiny) (eqb k (cell_of c p)) (in_strip c (strip_of p q (div binary64 w (pow2 1))) k)

-- o is the first of the cells C that passes; none exactly if none does
pub record First (C : List ℕ) (passes : ℕ → Bool) (o : Option ℕ) : Type 0 where
  pub member : (k : ℕ) → o ≡ some k → T (has k C)
  pub passing : (k : ℕ) → o ≡ some k → T (passes k)
  pub first : (k : ℕ) → o ≡ some k → (j : ℕ) → T (has j C) → j < k → T (passes j) → ⊥
  pub nowhere : o ≡ none → (j : ℕ) → T (has j C) → T (passes j) → ⊥
