-- Between functions: columns and rows as stretches of the plane. Definitions only.
use Rattle.std.specs.Prelude.{ℕ, Float}
use Rattle.std.specs.Float.{binary64}
use Rattle.std.specs.Float.Ieee.{mul, of_int}
use Rattle.ieee.specs.Whole.{unbias}

-- where column, or row, n begins: as `bottom_left_point` has it (occupancy/mod.rs)
abbrev pub edge_of : Float → ℕ → Float
edge_of size n = mul binary64 size (of_int binary64 (unbias n))
