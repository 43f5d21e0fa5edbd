-- The structs of src/ as the model's records. Definitions only.
use Rattle.model.specs.Plane.{Pt}
use Rattle.plane.specs.declared.point.Point.{Point}
use Rattle.plane.specs.declared.point.Vector.{Vector}

abbrev pub pt : Point → Pt
pt p = record { x = p.x; y = p.y }

abbrev pub vec : Vector → Pt
vec v = record { x = v.x; y = v.y }
