-- Between functions: how the spans of a near test are found, along one axis: bounds that the near test's own steps hold at. Definitions only; proofs/AsideLaws.antt shows that they hold further out.
use Rattle.std.specs.Prelude.{◌≡◌, ◌+◌, ◌-◌, ◌<◌, true, cond, Float}
use Rattle.std.specs.Float.{binary64}
use Rattle.std.specs.Float.Ieee.{sub, mul, neg, lt, le}
use Rattle.ieee.specs.Constants.{nought, pow2}
use Rattle.model.specs.Cell.{W}
use Rattle.plane.specs.Edge.{edge_of}
use Rattle.segment.specs.declared.measured.Measured.{Measured}
use Rattle.segment.specs.declared.near.Proximity.{Proximity}
use Rattle.segment.specs.declared.spans.Span.{Span}

abbrev pub Small : Float → Type 0
Small x = (le (neg (pow2 100)) x ≡ true) × (le x (pow2 100) ≡ true)

pub record SmallLine (m : Measured) : Type 0 where
  pub ax : Small m.segment.p0.x
  pub ay : Small m.segment.p0.y
  pub bx : Small m.segment.p1.x
  pub by : Small m.segment.p1.y
  pub ux : Small m.unit.x
  pub uy : Small m.unit.y
  pub length : Small m.length

pub record Wide (g : Proximity) (side : Float) : Type 0 where
  pub above : le nought side ≡ true
  pub close : le g.close (mul binary64 side side) ≡ true
  pub far : le g.far (mul binary64 side side) ≡ true
  pub size : le nought g.size ≡ true
  pub most : le g.size (pow2 100) ≡ true

-- how far a segment of length l goes up, and down, from its first end, u being its unit vector's coordinate
abbrev pub up : Float → Float → Float
up u l = cond (lt nought u) (mul binary64 u l) nought

abbrev pub down : Float → Float → Float
down u l = cond (lt u nought) (mul binary64 u l) nought

-- x is above the end a, the end b, and all between, by `side` at least
pub record Above (side a b drift x : Float) : Type 0 where
  pub first : le side (sub binary64 x a) ≡ true
  pub second : le side (sub binary64 x b) ≡ true
  pub between : le side (sub binary64 (sub binary64 x a) drift) ≡ true

pub record Below (side a b drift x : Float) : Type 0 where
  pub first : le (sub binary64 x a) (neg side) ≡ true
  pub second : le (sub binary64 x b) (neg side) ≡ true
  pub between : le (sub binary64 (sub binary64 x a) drift) (neg side) ≡ true

pub record IsSpan (side a b u l size : Float) (s : Span) : Type 0 where
  pub low : 0 < s.low → Below side a b (down u l) (edge_of size (s.low - 1))
  pub high : s.high < 4294967295 → Above side a b (up u l) (edge_of size (s.high + 1))
  pub range : s.low < W
