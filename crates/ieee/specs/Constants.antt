-- The few floats that definitions and laws name: +0, 0.5 and the powers of two. Definitions only.
use Rattle.std.specs.Prelude.{ℕ, false, pos, negsuc, Float}
use Rattle.std.specs.Float.{fin}

abbrev pub nought : Float
nought = fin false 0 (pos 0)

abbrev pub half : Float
half = fin false 1 (negsuc 0)

-- 2 ^ k
abbrev pub pow2 : ℕ → Float
pow2 k = fin false 1 (pos k)
