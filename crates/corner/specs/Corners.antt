-- Between functions: one corner as a number. Definitions only.
use Rattle.std.specs.Prelude.{ℕ, cond, ◌||◌, List}
use Rattle.model.specs.Maps.{has}

-- the bit w, where none of the three is occupied
unfoldable pub bit_if : List ℕ → ℕ → ℕ → ℕ → ℕ → ℕ
bit_if C a b d w = cond (has a C || has b C || has d C) 0 w
