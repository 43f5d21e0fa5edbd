-- The table of pairs (RULES 2.1: each pair stored under both points). Definitions only.
use Rattle.std.specs.Prelude.{ℕ, ◌+◌, ◌*◌, ◌<◌, ◌≡◌, List, get_or}
use Rattle.std.proofs.Math.Option.{Option}
pub use Rattle.model.specs.Limits.{max_points, pair_places}
use Rattle.held.specs.Codes.{NamedPair, pair_code}

abbrev pub pair_place : ℕ → ℕ → ℕ
pair_place i j = max_points * i + j

-- the pairs of the points at every two places: none; or a pair, open or with its blocker
abbrev pub PairsBy : Type 0
PairsBy = ℕ → ℕ → Option (Option ℕ)

-- a table has a pair, or none, for every two places
abbrev pub Pairs : PairsBy → List ℕ → Type 0
Pairs P t = (i j : ℕ) → i < max_points → j < max_points → get_or t (pair_place i j) 0 ≡ pair_code (P i j)

-- pairs of which the table tells the blockers
abbrev pub PairsNamed : PairsBy → Type 0
PairsNamed P = (i j : ℕ) → NamedPair (P i j)
