-- Segments, step for step as in occupancy/util.rs: where one crosses a line, how far a point is, and the near test. Definitions only.
use Rattle.std.specs.Prelude.{ℕ, Bool, true, false, cond, ◌&&◌, ◌||◌, List, [], ◌∷◌, pos, Float}
use Rattle.std.proofs.Math.Option.{Option, none, some}
use Rattle.std.specs.Float.{binary64}
use Rattle.std.specs.Float.Ieee.{add, sub, mul, div, lt, le}
use Rattle.ieee.specs.Constants.{nought}
use Rattle.ieee.specs.Pick.{abs_f, min_f, max_f}
use Rattle.model.specs.Plane.{Pt, minus, times, over, dot, norm, tiny, bound, low_corner}

pub record Seg : Type 0 where
  pub p0 : Pt
  pub p1 : Pt

-- ---- `SearchF64`: the least, or the greatest, of what was checked
abbrev pub check_min : Option Float → Float → Option Float
check_min none a = some a
check_min (some v) a = some (min_f v a)

abbrev pub check_max : Option Float → Float → Option Float
check_max none a = some a
check_max (some v) a = some (max_f v a)

-- ---- `vertical_intersect`: the y values at x, none, one or two
unfoldable pub vertical_at : Seg → Float → List Float
vertical_at s x =
    let a = s.p0.x in
    let b = s.p1.x in
    let m = div binary64 (sub binary64 s.p1.y s.p0.y) (sub binary64 b a) in
    let slanted = add binary64 (mul binary64 m (sub binary64 x a)) s.p0.y ∷ [] in
    let upright = s.p0.y ∷ s.p1.y ∷ [] in
    let met = cond (lt (abs_f (sub binary64 b a)) tiny) upright slanted in
    cond (lt x a && lt x b) [] (cond (lt a x && lt b x) [] met)

-- `horizontal_intersect`: the same with the axes exchanged
abbrev pub mirrored : Pt → Pt
mirrored p = record { x = p.y; y = p.x }

unfoldable pub horizontal_at : Seg → Float → List Float
horizontal_at s y = vertical_at (record { p0 = mirrored s.p0; p1 = mirrored s.p1 }) y

-- ---- `distance_from_point`
unfoldable pub distance : Seg → Pt → Float
distance s p =
    let v1 = minus s.p1 s.p0 in
    let length = norm v1 in
    let unit = over v1 length in
    let v = minus p s.p0 in
    let shadow = dot v unit in
    let first = norm v in
    let second = norm (minus p s.p1) in
    let across = norm (minus v (times unit shadow)) in
    cond (lt length tiny) first (cond (lt shadow nought) first (cond (lt length shadow) second across))

-- ---- `passes_near_cell`
-- yes at the first corner nearer than r, no at the first at `far` or beyond, whichever comes earlier; else the remaining steps
unfoldable pub near_corners : Seg → Float → Float → List Pt → Bool → Bool
near_corners s r far [] remaining = remaining
near_corners s r far (p ∷ l) remaining =
    let d = distance s p in
    let rest = near_corners s r far l remaining in
    cond (lt d r) true (cond (le far d) false rest)

-- one of the values lies strictly between
unfoldable pub between : Float → Float → List Float → Bool
between lo hi [] = false
between lo hi (a ∷ l) = lt lo a && lt a hi || between lo hi l

-- the remaining steps: an end strictly inside the cell from a to b, or a crossing of one of its sides
unfoldable pub meets : Seg → Pt → Pt → Bool
meets s a b =
    let inside : Pt → Bool = λ p. lt a.x p.x && lt p.x b.x && lt a.y p.y && lt p.y b.y in
    inside s.p0 || inside s.p1
    || between a.y b.y (vertical_at s a.x) || between a.y b.y (vertical_at s b.x)
    || between a.x b.x (horizontal_at s a.y) || between a.x b.x (horizontal_at s b.y)

-- cell k of size c; the corners in the order (0,0), (0,1), (1,0), (1,1)
unfoldable pub passes_near : Seg → ℕ → Float → Float → Bool
passes_near s k c r =
    let a = low_corner c k (pos 0) (pos 0) in
    let b = low_corner c k (pos 1) (pos 1) in
    let far = add binary64 r (mul binary64 bound c) in
    let remaining = meets s a b in
    near_corners s r far (a ∷ low_corner c k (pos 0) (pos 1) ∷ low_corner c k (pos 1) (pos 0) ∷ b ∷ []) remaining
