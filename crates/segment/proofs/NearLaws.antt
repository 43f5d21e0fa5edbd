-- The near test by squares is the model's. Assumes nothing.
use Rattle.std.proofs.Common.{◌≡◌, ℕ, zero, suc, ◌+◌, ◌/◌, ◌%◌, ◌<◌, ◌≤◌, Bool, true, false, T, List, [], ◌∷◌, map, drop, pos, sym, refl, ap, ◌∙◌, arith}
use lib.Ieee.{Float, binary64, add, mul, lt, le, fits}
use Rattle.ieee.specs.Threshold.{Threshold}
use Rattle.ieee.proofs.Thresholds.{threshold_one}
use Rattle.model.specs.Plane.{Pt, bound, low_corner}
use Rattle.model.specs.Segment.{distance, near_corners, meets, passes_near}
use Rattle.segment.specs.Near.{IsProximity, decided, near_by}
use Rattle.segment.specs.Squared.{measured_of, squared}
use Rattle.segment.specs.Values.{seg}
use Rattle.segment.specs.declared.line.LineSegment.{LineSegment}
use Rattle.segment.specs.declared.measured.Measured.{Measured}
use Rattle.segment.specs.declared.near.Proximity.{Proximity}
use Rattle.segment.proofs.SquaredLaws.{distance_root, square_fits, square_not_below}

-- a distance against a limit is its square against the limit's threshold
module _ (s : LineSegment) (b t : Float) (h : Threshold b t) (p : Pt) where
  below_limit : lt (distance (seg s) p) b ≡ lt (squared (measured_of s) p) t
  below_limit = ap (λ (d : Float). lt d b) (distance_root s p) ∙ h.missed _ (square_fits (measured_of s) p) (square_not_below (measured_of s) p)

  from_limit : le b (distance (seg s) p) ≡ le t (squared (measured_of s) p)
  from_limit = ap (λ (d : Float). le b d) (distance_root s p) ∙ h.reached _ (square_fits (measured_of s) p) (square_not_below (measured_of s) p)

corners_decided : (s : LineSegment) (r far t u : Float) → Threshold r t → Threshold far u → (l : List Pt) (remaining : Bool)
    → near_corners (seg s) r far l remaining ≡ decided t u (map (squared (measured_of s)) l) remaining
unfolding near_corners decided
corners_decided s r far t u h k [] remaining = refl
corners_decided s r far t u h k (p ∷ l) remaining = rw (below_limit s r t h p, from_limit s far u k p, corners_decided s r far t u h k l remaining)

-- the theorem: prepared once, the near test answers as the Rust's does
pub near_is : (s : LineSegment) (g : Proximity) (k : ℕ) (c r : Float) → IsProximity c r g → passes_near (seg s) k c r ≡ near_by (measured_of s) g k
unfolding passes_near near_by measured_of
near_is s g k c r h =
    let far : Threshold (add binary64 r (mul binary64 bound g.size)) g.far = rw h.size h.far in
    rw (← h.size) (corners_decided s r _ g.close g.far h.close far _ _)

-- there is one `Proximity` for a size and a radius
pub proximity_one : (c r : Float) (g h : Proximity) → T (fits binary64 g.close) → T (fits binary64 h.close) → T (fits binary64 g.far) → T (fits binary64 h.far) → IsProximity c r g → IsProximity c r h → g ≡ h
proximity_one c r g h gn hn gf hf p q =
    rw (p.size ∙ sym q.size, p.limit ∙ sym q.limit, threshold_one r g.close h.close gn hn p.close q.close, threshold_one _ g.far h.far gf hf p.far q.far) refl

-- ---- corner by corner: where the first i decided nothing
module _ (m : Measured) (g : Proximity) (k : ℕ) where
  abbrev place : ℕ → Pt
  place i = low_corner g.size k (pos (i / 2 % 2)) (pos (i % 2))

  abbrev squares : List Float
  squares = squared m (place 0) ∷ squared m (place 1) ∷ squared m (place 2) ∷ squared m (place 3) ∷ []

  abbrev remaining : Bool
  remaining = meets (seg m.segment) (place 0) (place 3)

  -- the answer is that of the corners from i on
  abbrev pub Open : ℕ → Type 0
  Open i = near_by m g k ≡ decided g.close g.far (drop i squares) remaining

  pub open_all : Open 0
  unfolding near_by
  open_all = refl

  pub open_none : (i : ℕ) → i ≤ 4 → 4 ≤ i → Open i → remaining ≡ near_by m g k
  unfolding decided
  open_none i h l o = let e : i ≡ 4 = omega arith in sym (o ∙ ap (λ (n : ℕ). decided g.close g.far (drop n squares) remaining) e)

  next : (i : ℕ) → i < 4 → drop i squares ≡ squared m (place i) ∷ drop (i + 1) squares
  next zero h = refl
  next (suc zero) h = refl
  next (suc (suc zero)) h = refl
  next (suc (suc (suc zero))) h = refl
  next (suc (suc (suc (suc i)))) h = absurd (omega arith)

  module _ (i : ℕ) (h : i < 4) (o : Open i) (q : Float) (e : q ≡ squared m (place i)) where
    pub corner_near : lt q g.close ≡ true → true ≡ near_by m g k
    unfolding decided
    corner_near y = rw (o, next i h, ← e, y) refl

    module _ (on : lt q g.close ≡ false) where
      pub corner_far : le g.far q ≡ true → false ≡ near_by m g k
      unfolding decided
      corner_far y = rw (o, next i h, ← e, on, y) refl

      pub corner_open : le g.far q ≡ false → Open (i + 1)
      unfolding decided
      corner_open y = rw (o, next i h, ← e, on, y) refl
