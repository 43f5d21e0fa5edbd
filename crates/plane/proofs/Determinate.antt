-- A point or a vector is fixed by the model's. Assumes nothing.
use mathlib.Core.Path.{◌≡◌, ap}
use Rattle.model.specs.Plane.{Pt}
use Rattle.plane.specs.Values.{pt, vec}
use Rattle.plane.specs.declared.point.Point.{Point}
use Rattle.plane.specs.declared.point.Vector.{Vector}

abbrev point_of : Pt → Point
point_of p = record { x = p.x; y = p.y }

abbrev vector_of : Pt → Vector
vector_of p = record { x = p.x; y = p.y }

pub point_one : (p q : Point) → pt p ≡ pt q → p ≡ q
point_one p q e = ap point_of e

pub vector_one : (v w : Vector) → vec v ≡ vec w → v ≡ w
vector_one v w e = ap vector_of e
