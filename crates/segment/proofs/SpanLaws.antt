-- The spans leave out no cell that is near, so the prepared test answers as the model's does. Assumes nothing.
use Rattle.std.proofs.Common.{◌≡◌, ℕ, ◌+◌, ◌-◌, ◌%◌, ◌^◌, ◌<◌, ◌≤◌, Bool, true, false, ◌&&◌, ltb, leb, pos, ◌+ℤ◌, sym, refl, ap, ◌∙◌, le_of_lt, arith, ltb-false, ltb-true, lt-ltb, le-leb, leb-false}
use borrow.Author.Tests.{lt-leb}
use lib.Bits.{bit_or, bit_and, or_add_and, and_le_l, and_le_r, or_lt}
use lib.Ieee.{Float, binary64, mul, le, lt}
use Rattle.ieee.specs.Constants.{nought, pow2}
use Rattle.ieee.specs.Whole.{unbias}
use Rattle.ieee.proofs.Monotone.{le_trans, le_lt}
use Rattle.model.specs.Cell.{W, col, row}
use Rattle.model.specs.Plane.{Pt, low_corner}
use Rattle.model.specs.Segment.{passes_near}
use Rattle.segment.specs.Many.{in_span, in_spans, prepared, Ready}
use Rattle.segment.specs.Spans.{Small, SmallLine, Wide, IsSpan}
use Rattle.plane.specs.Edge.{edge_of}
use Rattle.segment.specs.Near.{IsProximity, decided, near_by}
use Rattle.segment.specs.Squared.{measured_of, squared}
use Rattle.plane.specs.Values.{pt, vec}
use Rattle.segment.specs.Values.{seg}
use Rattle.segment.specs.declared.line.LineSegment.{LineSegment}
use Rattle.segment.specs.declared.many.NearTest.{NearTest}
use Rattle.segment.specs.declared.spans.Span.{Span}
use Rattle.segment.specs.declared.measured.Measured.{Measured}
use Rattle.segment.specs.declared.near.Proximity.{Proximity}
use Rattle.ieee.proofs.Unbiased.{column_next}
use Rattle.segment.proofs.AsideLaws.{Within, Aside, edge_mono, edge_within, above_aside, below_aside, drift_number, small_finite, on, aside_square}
use Rattle.segment.proofs.NearLaws.{near_is}

-- one of two is false
either : (a b : Bool) {P : Type 0} → (a && b) ≡ false → (a ≡ false → P) → (b ≡ false → P) → P
either true b h f g = g h
either false b h f g = f refl

-- ---- differences, and their top bits
same_bool : (a b : ℕ) (t : Bool) → (a < b → t ≡ true) → (b ≤ a → t ≡ false) → ltb a b ≡ t
same_bool a b t f g = go (ltb a b) refl
  where
    go : (s : Bool) → ltb a b ≡ s → s ≡ t
    go true e = sym (f (ltb-true a b e))
    go false e = sym (g (ltb-false a b e))

-- n - m, wrapped, has no top bit exactly if m is at most n
pub wrapped_sign : (n m d : ℕ) → n < 2 ^ 32 → m < 2 ^ 32 → d < 2 ^ 64 → (d + m) % 2 ^ 64 ≡ n → ltb d 9223372036854775808 ≡ leb m n
wrapped_sign n m d a b f e = same_bool d 9223372036854775808 (leb m n) (λ h. le-leb m n (omega arith)) (λ h. lt-leb m n (omega arith))

pub or_sign : (a b : ℕ) → ltb (bit_or a b) 9223372036854775808 ≡ (ltb a 9223372036854775808 && ltb b 9223372036854775808)
or_sign a b = same_bool (bit_or a b) 9223372036854775808 _ low high
  where
    sum : bit_or a b + bit_and a b ≡ a + b
    sum = or_add_and a b

    low : bit_or a b < 9223372036854775808 → (ltb a 9223372036854775808 && ltb b 9223372036854775808) ≡ true
    low h =
        let l = and_le_l a b in
        let r = and_le_r a b in
        let s = sum in
        let p : a < 9223372036854775808 = omega arith in
        let q : b < 9223372036854775808 = omega arith in
        rw (lt-ltb a 9223372036854775808 p, lt-ltb b 9223372036854775808 q) refl

    high : 9223372036854775808 ≤ bit_or a b → (ltb a 9223372036854775808 && ltb b 9223372036854775808) ≡ false
    high h = go (ltb a 9223372036854775808) (ltb b 9223372036854775808) refl refl
      where
        go : (s t : Bool) → ltb a 9223372036854775808 ≡ s → ltb b 9223372036854775808 ≡ t → (s && t) ≡ false
        go true true e f = let o = or_lt 63 a b (ltb-true a (2 ^ 63) e) (ltb-true b (2 ^ 63) f) in absurd (omega arith)
        go true false e f = refl
        go false t e f = refl

-- ---- one axis: a column outside the span is aside
module _ (side a b u l size : Float) (fa : Small a) (fb : Small b) (fu : Small u) (fl : Small l) (low : le nought size ≡ true) (most : le size (pow2 100) ≡ true) where
  span_aside : (sp : Span) → IsSpan side a b u l size sp → (n : ℕ) → n < 2 ^ 32 → in_span sp n ≡ false → Aside side a b u l (edge_of size n)
  span_aside sp i n h o = either (leb sp.low n) (leb n sp.high) o before after
    where
      at : (k : ℕ) → k ≤ 2 ^ 32 → Within (pow2 131) (edge_of size k)
      at k b = edge_within size low most k b

      before : leb sp.low n ≡ false → Aside side a b u l (edge_of size n)
      before e =
          let k : n < sp.low = leb-false sp.low n e in
          let r : sp.low < W = i.range in
          let m : sp.low - 1 ≤ 2 ^ 32 = omega arith in
          let d : n ≤ sp.low - 1 = omega arith in
          let p : 0 < sp.low = omega arith in
          below_aside side a b u l (edge_of size (sp.low - 1)) (edge_of size n) fa fb fu fl (at (sp.low - 1) m) (at n (le_of_lt h)) (drift_number (lt u nought) u l (small_finite u fu) (small_finite l fl)) (edge_mono size low most n (sp.low - 1) d m) (i.low p)

      after : leb n sp.high ≡ false → Aside side a b u l (edge_of size n)
      after e =
          let k : sp.high < n = leb-false n sp.high e in
          let p : sp.high < 4294967295 = omega arith in
          let m : sp.high + 1 ≤ 2 ^ 32 = omega arith in
          let d : sp.high + 1 ≤ n = omega arith in
          above_aside side a b u l (edge_of size (sp.high + 1)) (edge_of size n) fa fb fu fl (at (sp.high + 1) m) (at n (le_of_lt h)) (drift_number (lt nought u) u l (small_finite u fu) (small_finite l fl)) (edge_mono size low most (sp.high + 1) n d (le_of_lt h)) (i.high p)

-- ---- a cell whose first corner is far
corner_is : (size : Float) (k : ℕ) → low_corner size k (pos 0) (pos 0) ≡ record { x = edge_of size (col k); y = edge_of size (row k) }
unfolding low_corner
corner_is size k = rw (← step (col k), ← step (row k)) refl
  where
    step : (n : ℕ) → unbias n ≡ unbias n +ℤ pos 0
    step n = let e : n ≡ n + 0 = omega arith in ap unbias e ∙ column_next n 0

far_cell : (m : Measured) (g : Proximity) (side : Float) (k : ℕ) → Wide g side → le (mul binary64 side side) (squared m (low_corner g.size k (pos 0) (pos 0))) ≡ true → near_by m g k ≡ false
unfolding near_by decided
far_cell m g side k w h =
    let q = squared m (low_corner g.size k (pos 0) (pos 0)) in
    let n : lt q g.close ≡ false = le_lt g.close q (le_trans g.close (mul binary64 side side) q w.close h) in
    let f : le g.far q ≡ true = le_trans g.far (mul binary64 side side) q w.far h in
    rw (n, f) refl

-- ---- both axes
module _ (m : Measured) (g : Proximity) (side : Float) (sl : SmallLine m) (wd : Wide g side) (cols rows : Span)
    (ic : IsSpan side m.segment.p0.x m.segment.p1.x m.unit.x m.length g.size cols) (ir : IsSpan side m.segment.p0.y m.segment.p1.y m.unit.y m.length g.size rows) where
  pub nothing_near : (k : ℕ) → k < 2 ^ 64 → (in_span cols (col k) && in_span rows (row k)) ≡ false → near_by m g k ≡ false
  nothing_near k h o = far_cell m g side k wd (rw (corner_is g.size k) (either (in_span cols (col k)) (in_span rows (row k)) o across upward))
    where
      x : col k < 2 ^ 32
      x = omega arith

      y : row k < 2 ^ 32
      y = omega arith

      p : Pt
      p = record { x = edge_of g.size (col k); y = edge_of g.size (row k) }

      far : (axis : Bool) → Aside side (on axis (pt m.segment.p0)) (on axis (pt m.segment.p1)) (on axis (vec m.unit)) m.length (on axis p) → le (mul binary64 side side) (squared m p) ≡ true
      far axis a = aside_square m side sl wd.above p (edge_within g.size wd.size wd.most (col k) (le_of_lt x)) (edge_within g.size wd.size wd.most (row k) (le_of_lt y)) axis a

      across : in_span cols (col k) ≡ false → le (mul binary64 side side) (squared m p) ≡ true
      across e = far true (span_aside side m.segment.p0.x m.segment.p1.x m.unit.x m.length g.size sl.ax sl.bx sl.ux sl.length wd.size wd.most cols ic (col k) x e)

      upward : in_span rows (row k) ≡ false → le (mul binary64 side side) (squared m p) ≡ true
      upward e = far false (span_aside side m.segment.p0.y m.segment.p1.y m.unit.y m.length g.size sl.ay sl.by sl.uy sl.length wd.size wd.most rows ir (row k) y e)

-- the spans of all columns and rows leave nothing out
-- what a prepared test answers: the spans do not show
pub prepared_answer : (s : LineSegment) (g : Proximity) (t : NearTest) (k : ℕ) → k < 2 ^ 64 → Ready s g t → prepared t k ≡ near_by (measured_of s) g k
prepared_answer s g t k h d = go (in_spans t k) refl
  where
    answer : near_by t.line g k ≡ near_by (measured_of s) g k
    answer = ap (λ (m : Measured). near_by m g k) d.line

    go : (b : Bool) → in_spans t k ≡ b → (b && near_by t.line t.proximity k) ≡ near_by (measured_of s) g k
    go true e = ap (λ (q : Proximity). near_by t.line q k) d.proximity ∙ answer
    go false e = sym (d.outside k h e) ∙ answer

-- any two tests that are prepared for one segment answer alike
pub prepared_same : (s : LineSegment) (g : Proximity) (t u : NearTest) (k : ℕ) → k < 2 ^ 64 → Ready s g t → Ready s g u
    → prepared t k ≡ prepared u k
prepared_same s g t u k h d e = prepared_answer s g t k h d ∙ sym (prepared_answer s g u k h e)

-- the theorem: a prepared test answers as the Rust's near test does
pub prepared_near : (s : LineSegment) (g : Proximity) (t : NearTest) (k : ℕ) (c r : Float) → k < 2 ^ 64 → Ready s g t → IsProximity c r g → prepared t k ≡ passes_near (seg s) k c r
prepared_near s g t k c r h d i = prepared_answer s g t k h d ∙ sym (near_is s g k c r i)
