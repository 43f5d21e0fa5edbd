-- The segment of src/ as the model's record. Definitions only.
use Rattle.model.specs.Segment.{Seg}
use Rattle.plane.specs.Values.{pt}
use Rattle.segment.specs.declared.line.LineSegment.{LineSegment}

abbrev pub seg : LineSegment → Seg
seg s = record { p0 = pt s.p0; p1 = pt s.p1 }
