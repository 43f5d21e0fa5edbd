-- Between functions: a search in a table by powers of two. Definitions only.
use Rattle.std.specs.Prelude.{ℕ, ◌+◌, ◌-◌, ◌<◌, ◌≤◌, ◌≡◌, true, false, cond, Result, Ok, Err, List, ltb, length, get_or}
use Rattle.model.specs.Maps.{AscL}
use Rattle.table.specs.Tables.{rank, stands}

-- k is, or would be, at a place
pub record Placed (t : List ℕ) (k at : ℕ) : Type 0 where
  pub inside : at ≤ length t
  pub place : AscL 0 t → at ≡ rank k t

-- k is at a place, or else would be there
abbrev pub Found : List ℕ → ℕ → Result ℕ ℕ → Type 0
Found t k (Ok at) = Placed t k at × (stands k at t ≡ true)
Found t k (Err at) = Placed t k at × (stands k at t ≡ false)

-- the first look: the last p entries, or the first p
unfoldable pub begun : List ℕ → ℕ → ℕ → ℕ
begun t p k = cond (ltb (get_or t (p - 1) 0) k) (length t - p) 0

-- a look at the h-th entry from `at` on
unfoldable pub looked : List ℕ → ℕ → ℕ → ℕ → ℕ
looked t at h k = at + cond (ltb (get_or t (at + h - 1) 0) k) h 0

-- of five neighbouring columns: for each of them, by its number, its place
abbrev pub Each : (ℕ → ℕ → Type 0) → List ℕ → Type 0
Each P f = (i : ℕ) → i < 5 → P i (get_or f i 0)
