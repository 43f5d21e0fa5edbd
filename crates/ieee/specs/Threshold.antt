-- The least binary64 value whose root is at least b, so that a loop can compare squares and take no root (this port's own). Definitions only.
use Rattle.std.specs.Prelude.{◌≡◌, false, T, Float}
use Rattle.std.specs.Float.{binary64}
use Rattle.std.specs.Float.Ieee.{fits, lt, le}
use Rattle.ieee.specs.Constants.{nought}
use Rattle.ieee.specs.Pick.{abs_f}
use Rattle.ieee.specs.Root.{root_f}

-- of every value q that is not below zero, a zero of either sign, an infinity and a NaN among them: its root is at least b exactly when q is at least t,
-- and below b exactly when q is below t. A zero is +0. Where b is a NaN no root is at least b, and t is a NaN.
pub record Threshold (b t : Float) : Type 0 where
  pub reached : (q : Float) → T (fits binary64 q) → lt q nought ≡ false → le b (root_f q) ≡ le t q
  pub missed : (q : Float) → T (fits binary64 q) → lt q nought ≡ false → lt (root_f q) b ≡ lt q t
  pub unsigned : abs_f t ≡ t
