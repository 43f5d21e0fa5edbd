-- Between functions: the table of pairs while it is filled, row by row. Definitions only.
use Rattle.std.specs.Prelude.{ℕ, ◌+◌, ◌-◌, min, cond, ltb}
use Rattle.std.proofs.Math.Option.{none}
use Rattle.held.specs.Pairs.{PairsBy, pair_place}

-- the place of a pair from its lesser end
abbrev pub fore_place : ℕ → ℕ → ℕ
fore_place i j = pair_place (min i j) (i + j - min i j)

-- of the pairs P, those whose place from the lesser end is before n
abbrev pub up_to : ℕ → PairsBy → PairsBy
up_to n P i j = cond (ltb (fore_place i j) n) (P i j) none
