-- Between functions: the near test of one segment against many cells: a cell outside of the spans is answered at once. Definitions only; proofs/SpanLaws.antt shows that nothing near is left out.
use Rattle.std.specs.Prelude.{◌≡◌, ℕ, ◌^◌, ◌<◌, Bool, false, ◌&&◌, nat_le}
use Rattle.model.specs.Cell.{col, row}
use Rattle.segment.specs.Near.{near_by}
use Rattle.segment.specs.Squared.{measured_of}
use Rattle.segment.specs.declared.line.LineSegment.{LineSegment}
use Rattle.segment.specs.declared.many.NearTest.{NearTest}
use Rattle.segment.specs.declared.near.Proximity.{Proximity}
use Rattle.segment.specs.declared.spans.Span.{Span}

-- the columns and the rows that are looked at
abbrev pub in_span : Span → ℕ → Bool
in_span s n = nat_le s.low n && nat_le n s.high

abbrev pub in_spans : NearTest → ℕ → Bool
in_spans t k = in_span t.columns (col k) && in_span t.rows (row k)

-- what a prepared test answers for a cell
abbrev pub prepared : NearTest → ℕ → Bool
prepared t k = in_spans t k && near_by t.line t.proximity k

-- what is prepared: the segment and the limits as given, and spans that leave out nothing near
pub record Ready (s : LineSegment) (g : Proximity) (t : NearTest) : Type 0 where
  pub line : t.line ≡ measured_of s
  pub proximity : t.proximity ≡ g
  pub outside : (k : ℕ) → k < 2 ^ 64 → in_spans t k ≡ false → near_by t.line g k ≡ false
