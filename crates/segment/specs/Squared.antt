-- Between functions: a segment with its length and unit vector, and the square of a point's distance from it: `distance_from_point` (occupancy/util.rs) before its root. Definitions only;
-- proofs/SquaredLaws.antt shows that the model's distance is the root of it.
use Rattle.std.specs.Prelude.{cond, Float}
use Rattle.std.specs.Float.Ieee.{lt}
use Rattle.ieee.specs.Constants.{nought}
use Rattle.model.specs.Plane.{Pt, minus, times, over, dot, norm, tiny}
use Rattle.plane.specs.Values.{pt, vec}
use Rattle.segment.specs.Values.{seg}
use Rattle.segment.specs.declared.line.LineSegment.{LineSegment}
use Rattle.segment.specs.declared.measured.Measured.{Measured}

-- from its first end to its second
abbrev pub along : LineSegment → Pt
along s = minus (pt s.p1) (pt s.p0)

unfoldable pub measured_of : LineSegment → Measured
measured_of s =
    let l = norm (along s) in
    let u = over (along s) l in
    record { segment = s; length = l; unit = record { x = u.x; y = u.y } }

unfoldable pub squared : Measured → Pt → Float
squared m p =
    let s = seg m.segment in
    let u = vec m.unit in
    let v = minus p s.p0 in
    let w = minus p s.p1 in
    let shadow = dot v u in
    let a = minus v (times u shadow) in
    cond (lt m.length tiny) (dot v v) (cond (lt shadow nought) (dot v v) (cond (lt m.length shadow) (dot w w) (dot a a)))
