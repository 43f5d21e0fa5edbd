-- The circle test of one cell: by the tests that decide it; it is the model's. Assumes nothing.
use Prim.Native.Nat.{ℕ}
use mathlib.Core.Path.{◌≡◌, refl}
use mathlib.Core.Bool.{true, false}
use lib.IntN.{pos}
use lib.Ieee.{Float, lt, le}
use Rattle.model.specs.Plane.{Pt, minus, dot, centre, low_corner}
use Rattle.model.specs.Shape.{in_box, point_inside, line_inside, in_circle}
use Rattle.plane.specs.Values.{pt}
use Rattle.shape.specs.Circle.{circle_of, point_within, line_within, sides_within, circle_meets}
use Rattle.shape.specs.declared.circle.Circle.{Circle}

-- ---- the theorem: of the cells that the loops reach, the circle meets those that the Rust says
module _ (c : Float) (p : Pt) (r : Float) (k : ℕ) where
  pub circle_in_box : in_box c p r k ≡ true → circle_meets (circle_of c p r) k ≡ in_circle c p r k
  unfolding circle_meets circle_of in_circle line_within line_inside point_within point_inside
  circle_in_box h = rw h refl

  pub circle_out_of_box : in_box c p r k ≡ false → in_circle c p r k ≡ false
  unfolding in_circle
  circle_out_of_box h = rw h refl

-- ---- a cell: dp is from its centre, a and b are its outer corners
module _ (g : Circle) (k : ℕ) (dp : Pt) (away : dp ≡ minus (pt g.p) (centre g.size k)) where
  pub meets_close : lt (dot dp dp) g.close ≡ true → true ≡ circle_meets g k
  unfolding circle_meets
  meets_close y = rw (← away, y) refl

  module _ (on : lt (dot dp dp) g.close ≡ false) where
    pub meets_far : le g.far (dot dp dp) ≡ true → false ≡ circle_meets g k
    unfolding circle_meets
    meets_far y = rw (← away, on, y) refl

    pub meets_sides : le g.far (dot dp dp) ≡ false → (a b : Pt) → a ≡ low_corner g.size k (pos 0) (pos 0) → b ≡ low_corner g.size k (pos 1) (pos 1) → sides_within (pt g.p) g.square dp a b ≡ circle_meets g k
    unfolding circle_meets sides_within low_corner
    meets_sides y a b low high = rw (← away, on, y, low, high) refl
