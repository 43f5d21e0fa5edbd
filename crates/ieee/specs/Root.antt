-- The correctly rounded square root of a binary64 value (IEEE 754-2019, squareRoot; nearest, ties to even), over integer squares: no real number is named.
-- Definitions only. `proofs/Squares.antt` shows `Rooted n (isqrt n)`, and `proofs/RootNearest.antt` that `root_units` is nearest in the sense of `Nearest`.
use Rattle.std.specs.Prelude.{ℕ, zero, suc, ◌+◌, ◌-◌, ◌*◌, ◌/◌, ◌^◌, ◌<◌, ◌≤◌, false, cond, ◌==◌, nat_le, Float}
use Prim.Native.Nat.{compare}
use Rattle.std.specs.Float.{nan, inf, fin, binary64}
use Rattle.std.specs.Float.Ieee.{up, down, size, nearest, units}

-- r is the whole part of n's root
abbrev pub Rooted : ℕ → ℕ → Type 0
Rooted n r = (r * r ≤ n) × (n < (r + 1) * (r + 1))

-- ---- that number, a binary digit at a time: of n below 4 ^ j, from the root of n / 4
unfoldable pub digit : ℕ → ℕ → ℕ
digit n r = cond (nat_le ((r + 1) * (r + 1)) n) (r + 1) r

unfoldable pub root_in : ℕ → ℕ → ℕ
unfolding digit
root_in zero n = 0
root_in (suc j) n = digit n (2 * root_in j (n / 4))

unfoldable pub isqrt : ℕ → ℕ
unfolding size root_in
isqrt n = root_in (size n) n

-- ---- The root of n units, a unit being the format's smallest value, 2 ^ -1074. In units it is the number whose square is w = n * 2 ^ 1074.
-- The format keeps 53 digits of that number's whole part, and drops k. So the result is a multiple of 2 ^ k units: q, or the next number up
-- where the root is nearer to it, which is seen by comparing w with the square of (q + 1/2) * 2 ^ k, both times 4. At a tie it is the even one.
unfoldable pub root_units : ℕ → Float
unfolding size isqrt units
root_units n =
    let w = n * 2 ^ 1074 in
    let k = size (isqrt w) - 53 in
    let q = isqrt (w / 2 ^ (2 * k)) in
    units binary64 false (nearest q (compare (w * 4) ((2 * q + 1) * (2 * q + 1) * 2 ^ (2 * k)))) k

-- v is a whole number nearest to the root of w / d: (v - 1/2)² ≤ w / d ≤ (v + 1/2)², each times 4 d
pub record Nearest (w d v : ℕ) : Type 0 where
  pub above : w * 4 ≤ (2 * v + 1) * (2 * v + 1) * d
  pub below : (2 * v - 1) * (2 * v - 1) * d ≤ w * 4

-- A zero keeps its sign, and what is below zero has no root. A finite value is a whole number of units.
unfoldable pub root_f : Float → Float
unfolding root_units
root_f nan = nan
root_f (inf s) = cond s nan (inf false)
root_f (fin s m e) = cond (m == 0) (fin s m e) (cond s nan (root_units (m * up e * 2 ^ 1074 / down e)))
