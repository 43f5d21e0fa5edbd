-- The near tests of many cells. Definitions only.
use Rattle.std.specs.Prelude.{ℕ, Bool, cond, List, ◌++◌, map, length, drop, nat_le, Float}
use Rattle.model.specs.Segment.{Seg, passes_near}

-- 1 for yes
abbrev pub number : Bool → ℕ
number b = cond b 1 0

-- the bytes afterwards: an answer for each cell, then what was there; all that was there, where there is no room
unfoldable pub told : Seg → Float → Float → List ℕ → List ℕ → List ℕ
told s c r cells out =
    let all = map (λ k. number (passes_near s k c r)) cells in
    cond (nat_le (length cells) (length out)) (all ++ drop (length cells) out) out
