-- Where a column or a row of any number lies (occupancy/mod.rs, `Cell::center_point`, `Cell::bottom_left_point`). Definitions only.
use Rattle.std.specs.Prelude.{ℤ, Float}
use Rattle.std.specs.Float.{binary64}
use Rattle.std.specs.Float.Ieee.{mul, of_int}
use Rattle.ieee.specs.Yard.{centre_f}

abbrev pub along : Float → ℤ → Float
along size n = mul binary64 size (of_int binary64 n)

abbrev pub middle : Float → ℤ → Float
middle size n = centre_f size (of_int binary64 n)
