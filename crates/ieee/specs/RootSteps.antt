-- Between functions: what the steps inside `root` promise each other. Definitions only; nothing outside this crate cites them.
use Rattle.std.specs.Prelude.{ℕ, ◌+◌, ◌-◌, ◌*◌, ◌/◌, ◌%◌, ◌^◌, ◌<◌, ◌≤◌, cond, nat_lt}

-- the bit pattern of a positive finite binary64 value, as a number of units of 2 ^ -1074: a field of 0 has no leading digit
unfoldable pub bit_units : ℕ → ℕ
bit_units b = cond (nat_lt b (2 ^ 52)) b ((2 ^ 52 + b % 2 ^ 52) * 2 ^ (b / 2 ^ 52 - 1))

-- v has 53 digits, and g is in the range that exponents have
pub record Scaled (v g : ℕ) : Type 0 where
  pub least : 2 ^ 52 ≤ v
  pub most : v < 2 ^ 53
  pub high : g ≤ 3067

-- r is the whole number nearest to the root of n: (r - 1/2)² < n < (r + 1/2)², and no whole number lies on either bound
pub record Rounded (n r : ℕ) : Type 0 where
  pub above : n ≤ r * r + r
  pub below : r * r < n + r
