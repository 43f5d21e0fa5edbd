-- The square of a distance: by the tests that pick its case; the model's distance is its root. Assumes nothing.
use Rattle.std.proofs.Common.{◌≡◌, Bool, true, false, cond, T, refl}
use lib.Ieee.{Float, binary64, lt, fits}
use lib.Ieee.Fits.{add-fits}
use Rattle.ieee.specs.Constants.{nought}
use Rattle.ieee.specs.Root.{root_f}
use Rattle.model.specs.Plane.{Pt, minus, times, over, dot, norm, tiny}
use Rattle.model.specs.Segment.{distance}
use Rattle.segment.specs.Squared.{measured_of, squared}
use Rattle.plane.specs.Values.{pt, vec}
use Rattle.segment.specs.Values.{seg}
use Rattle.segment.specs.declared.line.LineSegment.{LineSegment}
use Rattle.segment.specs.declared.measured.Measured.{Measured}
use Rattle.segment.proofs.SumOfSquares.{dot_not_below}

-- a segment with what was worked out of it
-- ---- the four cases: a segment without length, before its first end, past its second, between
module _ (m : Measured) (p v : Pt) (start : v ≡ minus p (pt m.segment.p0)) where
  pub square_short : lt m.length tiny ≡ true → dot v v ≡ squared m p
  unfolding squared
  square_short h = rw (start, h)

  module _ (long : lt m.length tiny ≡ false) where
    pub square_before : lt (dot v (vec m.unit)) nought ≡ true → dot v v ≡ squared m p
    unfolding squared
    square_before h = rw (long, ← start, h)

    module _ (after : lt (dot v (vec m.unit)) nought ≡ false) where
      pub square_past : (w : Pt) → w ≡ minus p (pt m.segment.p1) → lt m.length (dot v (vec m.unit)) ≡ true → dot w w ≡ squared m p
      unfolding squared
      square_past w e h = rw (long, ← start, after, h, e)

      pub square_within : (a : Pt) → a ≡ minus v (times (vec m.unit) (dot v (vec m.unit))) → lt m.length (dot v (vec m.unit)) ≡ false → dot a a ≡ squared m p
      unfolding squared
      square_within a e h = rw (long, ← start, after, h, e)

-- ---- whatever the case, it is a product of a vector with itself
module _ (m : Measured) (p : Pt) where
  abbrev first : Pt
  first = minus p (pt m.segment.p0)

  abbrev second : Pt
  second = minus p (pt m.segment.p1)

  abbrev shadow : Float
  shadow = dot first (vec m.unit)

  abbrev across : Pt
  across = minus first (times (vec m.unit) shadow)

  some_product : (P : Float → Type 0) → ((a : Pt) → P (dot a a)) → P (squared m p)
  unfolding squared
  some_product P each = pick (lt m.length tiny) (lt shadow nought) (lt m.length shadow)
    where
      pick : (a b c : Bool) → P (cond a (dot first first) (cond b (dot first first) (cond c (dot second second) (dot across across))))
      pick true b c = each first
      pick false true c = each first
      pick false false true = each second
      pick false false false = each across

  pub square_fits : T (fits binary64 (squared m p))
  square_fits = some_product (λ (q : Float). T (fits binary64 q)) (λ a. unfold dot in add-fits binary64 _ _)

  pub square_not_below : lt (squared m p) nought ≡ false
  square_not_below = some_product (λ (q : Float). lt q nought ≡ false) dot_not_below

-- ---- the model's distance
root_outside : (a b c : Bool) (x y z : Float) → cond a (root_f x) (cond b (root_f x) (cond c (root_f y) (root_f z))) ≡ root_f (cond a x (cond b x (cond c y z)))
root_outside true b c x y z = refl
root_outside false true c x y z = refl
root_outside false false true x y z = refl
root_outside false false false x y z = refl

pub distance_root : (s : LineSegment) (p : Pt) → distance (seg s) p ≡ root_f (squared (measured_of s) p)
unfolding distance squared measured_of norm over
distance_root s p =
    let m = measured_of s in
    root_outside (lt m.length tiny) (lt (shadow m p) nought) (lt m.length (shadow m p)) (dot (first m p) (first m p)) (dot (second m p) (second m p)) (dot (across m p) (across m p))
