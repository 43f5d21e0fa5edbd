-- Points and vectors of floats (nalgebra's Point2 and Vector2), step for step: a two-term dot product is the x product plus the y product (RULES 8.1). Definitions only.
use Rattle.std.specs.Prelude.{ℤ, ◌+ℤ◌, Float, ℕ}
use Rattle.std.specs.Float.{binary64}
use Rattle.std.specs.Float.Ieee.{add, sub, mul, div, neg, of_int, of_bits}
use Rattle.ieee.specs.Root.{root_f}
use Rattle.ieee.specs.Whole.{floor_z}
use Rattle.ieee.specs.Yard.{centre_f}
use Rattle.model.specs.Cell.{x_of, y_of, key}

pub record Pt : Type 0 where
  pub x : Float
  pub y : Float

unfoldable pub plus : Pt → Pt → Pt
plus a b = record { x = add binary64 a.x b.x; y = add binary64 a.y b.y }

unfoldable pub minus : Pt → Pt → Pt
minus a b = record { x = sub binary64 a.x b.x; y = sub binary64 a.y b.y }

unfoldable pub times : Pt → Float → Pt
times a f = record { x = mul binary64 a.x f; y = mul binary64 a.y f }

unfoldable pub over : Pt → Float → Pt
over a f = record { x = div binary64 a.x f; y = div binary64 a.y f }

unfoldable pub dot : Pt → Pt → Float
dot a b = add binary64 (mul binary64 a.x b.x) (mul binary64 a.y b.y)

unfoldable pub norm : Pt → Float
norm a = root_f (dot a a)

-- a quarter turn to the left
unfoldable pub turned : Pt → Pt
turned a = record { x = neg a.y; y = a.x }

-- ---- the constants, as Rust reads them: 1e-8, 1.4143 and std's SQRT_2
unfoldable pub tiny : Float
tiny = of_bits binary64 0x3e45_798e_e230_8c3a

unfoldable pub bound : Float
bound = of_bits binary64 0x3ff6_a0f9_096b_b98c

unfoldable pub root2 : Float
root2 = of_bits binary64 0x3ff6_a09e_667f_3bcd

-- ---- cells of size c (occupancy/mod.rs): `Cell::from_point`, `center_point`, and `bottom_left_point` of the cell (i, j) further
unfoldable pub cell_of : Float → Pt → ℕ
cell_of c p = key (floor_z (div binary64 p.x c)) (floor_z (div binary64 p.y c))

unfoldable pub centre : Float → ℕ → Pt
centre c k = record { x = centre_f c (of_int binary64 (x_of k)); y = centre_f c (of_int binary64 (y_of k)) }

unfoldable pub low_corner : Float → ℕ → ℤ → ℤ → Pt
low_corner c k i j = record { x = mul binary64 c (of_int binary64 (x_of k +ℤ i)); y = mul binary64 c (of_int binary64 (y_of k +ℤ j)) }
