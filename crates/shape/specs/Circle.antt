-- Between functions: the circle test of one cell by what is worked out once for all cells. Definitions only; proofs/CircleLaws.antt shows that it is the model's `in_circle` for the cells that its loops reach.
use Rattle.std.specs.Prelude.{ℕ, Bool, false, not, cond, ◌&&◌, ◌||◌, ℤ, pos, Float}
use Rattle.std.specs.Float.{binary64}
use Rattle.std.specs.Float.Ieee.{add, mul, div, lt, le}
use Rattle.ieee.specs.Constants.{nought, pow2}
use Rattle.model.specs.Plane.{Pt, plus, minus, times, over, dot, norm, root2, centre, low_corner}
use Rattle.plane.specs.Values.{pt}
use Rattle.shape.specs.declared.circle.Circle.{Circle}

unfoldable pub circle_of : Float → Pt → Float → Circle
circle_of c p r =
    let m = add binary64 r (div binary64 c (pow2 1)) in
    let n = add binary64 r (div binary64 (mul binary64 root2 c) (pow2 1)) in
    record { size = c; p = record { x = p.x; y = p.y }; radius = r; square = mul binary64 r r; close = mul binary64 m m; far = mul binary64 n n }

-- the model's `point_inside` and `line_inside`, with the radius's square handed in
unfoldable pub point_within : Pt → Float → Pt → Bool
point_within p square q = let dp = minus p q in lt (dot dp dp) square

unfoldable pub line_within : Pt → Float → Pt → Pt → Bool
line_within p square p0 p1 =
    let v = minus p1 p0 in
    let length = norm v in
    let n = over v length in
    let s = dot (minus p p0) n in
    let dp = minus (plus p0 (times n s)) p in
    let foot = cond (le s nought || le length s) false (lt (dot dp dp) square) in
    point_within p square p0 || point_within p square p1 || foot

-- of two opposite sides the one that faces the circle
abbrev pub facing : Float → Bool → Bool → Bool
facing d above below = cond (lt nought d) above (lt d nought && below)

-- both axes, for the cell with the outer corners a and b
unfoldable pub sides_within : Pt → Float → Pt → Pt → Pt → Bool
sides_within p square dp a b =
    let right : Pt = record { x = b.x; y = a.y } in
    let left : Pt = record { x = a.x; y = b.y } in
    facing dp.x (line_within p square right b) (line_within p square a left) || facing dp.y (line_within p square left b) (line_within p square a right)

unfoldable pub circle_meets : Circle → ℕ → Bool
circle_meets g k =
    let c = g.size in
    let p = pt g.p in
    let dp = minus p (centre c k) in
    let far = dot dp dp in
    let line : ℤ → ℤ → ℤ → ℤ → Bool = λ i j i' j'. line_within p g.square (low_corner c k i j) (low_corner c k i' j') in
    let right = line (pos 1) (pos 0) (pos 1) (pos 1) in
    let left = line (pos 0) (pos 0) (pos 0) (pos 1) in
    let top = line (pos 0) (pos 1) (pos 1) (pos 1) in
    let bottom = line (pos 0) (pos 0) (pos 1) (pos 0) in
    lt far g.close || (not (le g.far far) && (facing dp.x right left || facing dp.y top bottom))
