-- Between functions: what the steps inside `root_threshold` promise each other. Definitions only; nothing outside this crate cites them.
use Rattle.std.specs.Prelude.{◌≡◌, ℕ, ◌*◌, ◌^◌, ◌<◌, ◌≤◌, true, false, from_bits, Float}
use Rattle.std.specs.Float.{binary64}
use Rattle.std.specs.Float.Ieee.{le}
use Rattle.ieee.specs.Root.{root_f}

-- two bit patterns up to the infinity's: the root at lo is not at least b, and the one at hi is
pub record Between (b : Float) (lo hi : ℕ) : Type 0 where
  pub order : lo < hi
  pub range : hi ≤ 2047 * 2 ^ 52
  pub missed : le b (root_f (from_bits binary64 lo)) ≡ false
  pub reached : le b (root_f (from_bits binary64 hi)) ≡ true
