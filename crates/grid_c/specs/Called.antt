-- For floors, at no border: a batch on a floor, with its counts in a lent table. Definitions only.
use Rattle.std.specs.Prelude.{ℕ, ◌≤◌, ◌<◌, ◌≡◌, ◌⊎◌, List, ◌∷◌, ℤ, length, drop, Result, Ok, Err}
use Rattle.grid.specs.Change.{Changing, Lent}
use Rattle.grid.specs.Change as grid
use Rattle.grid.specs.declared.change.Changed.{Changed}
use Rattle.limits.specs.Refusals.{code}
use Rattle.limits.specs.declared.floor.Floor.{Floor}
use Rattle.limits.specs.declared.refusal.Refusal.{Refusal}

-- the counts of an accepted call
abbrev pub counts_of : Result Changed Refusal → List ℕ → List ℕ
counts_of (Ok r) l = r.confirmed ∷ r.corners ∷ r.floor.cells ∷ drop 3 l
counts_of (Err e) l = l

-- what `change_cells` answers, r, is told by its number and the counts
pub record Answered (floor : Floor) (b : List ℤ) (t t' : Lent) (l l' : List ℕ) (n : ℕ) (r : Result Changed Refusal) : Type 0 where
  pub changing : Changing floor b t t' r
  pub number : n ≡ code r
  pub counts : l' ≡ counts_of r l

pub record Called (floor : Floor) (b : List ℤ) (t t' : Lent) (l l' : List ℕ) (n : ℕ) : Type 0 where
  pub short : length l < 3 → (n ≡ 9) × (t' ≡ t) × (l' ≡ l)
  pub call : 3 ≤ length l → (r : Result Changed Refusal) × Answered floor b t t' l l' n r

-- the calls that the record above decides whole: any with no room for the counts, and those that `change_cells` decides
abbrev pub Decided : Floor → List ℤ → Lent → List ℕ → Type 0
Decided floor b t l = (length l < 3) ⊎ grid.Decided floor b t
