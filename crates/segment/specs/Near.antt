-- Between functions: the near test by squares. Definitions only; proofs/NearLaws.antt shows that it is the model's `passes_near`.
use Rattle.std.specs.Prelude.{◌≡◌, ℕ, Bool, true, false, cond, List, [], ◌∷◌, pos, Float}
use Rattle.std.specs.Float.{binary64}
use Rattle.std.specs.Float.Ieee.{add, mul, lt, le}
use Rattle.ieee.specs.Threshold.{Threshold}
use Rattle.model.specs.Plane.{bound, low_corner}
use Rattle.model.specs.Segment.{meets}
use Rattle.segment.specs.Squared.{squared}
use Rattle.segment.specs.Values.{seg}
use Rattle.segment.specs.declared.measured.Measured.{Measured}
use Rattle.segment.specs.declared.near.Proximity.{Proximity}

-- the limits of `passes_near_cell` (occupancy/util.rs), each as the least square whose root reaches it
pub record IsProximity (c r : Float) (g : Proximity) : Type 0 where
  pub size : g.size ≡ c
  pub limit : g.limit ≡ add binary64 r (mul binary64 bound c)
  pub close : Threshold r g.close
  pub far : Threshold (add binary64 r (mul binary64 bound c)) g.far

-- the first square to decide: yes below `close`, no from `far` on
unfoldable pub decided : Float → Float → List Float → Bool → Bool
decided close far [] remaining = remaining
decided close far (q ∷ l) remaining =
    let rest = decided close far l remaining in
    cond (lt q close) true (cond (le far q) false rest)

unfoldable pub near_by : Measured → Proximity → ℕ → Bool
near_by m g k =
    let c = g.size in
    let a = low_corner c k (pos 0) (pos 0) in
    let b = low_corner c k (pos 1) (pos 1) in
    decided g.close g.far (squared m a ∷ squared m (low_corner c k (pos 0) (pos 1)) ∷ squared m (low_corner c k (pos 1) (pos 0)) ∷ squared m b ∷ []) (meets (seg m.segment) a b)
