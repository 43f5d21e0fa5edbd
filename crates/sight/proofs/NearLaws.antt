-- What a prepared near test says of a cell. Assumes nothing.
use Prim.Native.Nat.{◌^◌, ◌<◌, ℕ}
use mathlib.Core.Path.{◌∙◌, ◌≡◌, ap}
use lib.Ieee.{Float}
use Rattle.model.specs.Map.{tests}
use Rattle.model.specs.Plane.{Pt, centre}
use Rattle.model.specs.Segment.{Seg, passes_near}
use Rattle.plane.specs.Values.{pt}
use Rattle.plane.specs.declared.point.Point.{Point}
use Rattle.segment.specs.Many.{Ready, prepared}
use Rattle.segment.specs.Near.{IsProximity}
use Rattle.segment.specs.Values.{seg}
use Rattle.segment.specs.declared.line.LineSegment.{LineSegment}
use Rattle.segment.specs.declared.many.NearTest.{NearTest}
use Rattle.segment.specs.declared.near.Proximity.{Proximity}
use Rattle.segment.proofs.SpanLaws.{prepared_near}

-- what a prepared near test answers is what the model's test does
pub prepared_answers : (size radius : Float) (p q : ℕ) (a b : Point) (s : LineSegment) (g : Proximity) (t : NearTest) → pt a ≡ centre size p → pt b ≡ centre size q → s.p0 ≡ a → s.p1 ≡ b → Ready s g t → IsProximity size radius g
    → (k : ℕ) → k < 2 ^ 64 → prepared t k ≡ (tests size radius).near k p q
unfolding tests
prepared_answers size radius p q a b s g t e f x y r i k h =
    let u : pt s.p0 ≡ centre size p = ap pt x ∙ e in
    let v : pt s.p1 ≡ centre size q = ap pt y ∙ f in
    let z : seg s ≡ record { p0 = centre size p; p1 = centre size q } = ap (λ (m : Pt). record { p0 = m; p1 = pt s.p1 }) u ∙ ap (λ (m : Pt). record { p0 = centre size p; p1 = m }) v in
    prepared_near s g t k size radius h r i ∙ ap (λ (m : Seg). passes_near m k size radius) z
