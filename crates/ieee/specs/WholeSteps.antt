-- Between functions: what a step of `column_of` and `column_up` answers. Definitions only.
use Rattle.std.specs.Prelude.{ℕ, ◌-◌, ◌^◌, cond, is_nan, Float}
use Rattle.std.specs.Float.Ieee.{lt}
use Rattle.ieee.specs.Constants.{nought}

-- the column of a value that lies beyond all columns: an end of the range, and the middle for a NaN
unfoldable pub beyond : Float → ℕ
beyond x = cond (lt x nought) 0 (cond (is_nan x) (2 ^ 31) (2 ^ 32 - 1))
