-- Between functions: the changes of a batch, one after another. Definitions only.
use Rattle.std.specs.Prelude.{ℕ, ◌≡◌, Bool, cond, List}
use Rattle.std.specs.List.{FoldsTo}

-- a cell with its flag, 0 for free, makes r of the blocker b: filled, it becomes the blocker where it is met; freed, where it was the blocker, what is found again does
abbrev pub Turns : (ℕ → ℕ → Bool → Type 0) → (ℕ → Type 0) → ℕ → ℕ × ℕ → ℕ → Type 0
Turns meets again b e r =
    ((e.1 ≡ 0) → (b ≡ e.0 → again r) × ((b ≡ e.0 → ⊥) → r ≡ b))
    × ((e.1 ≡ 0 → ⊥) → (x : Bool) × (meets b e.0 x) × (r ≡ cond x e.0 b))

-- .. all changes in turn
abbrev pub Ran : (ℕ → ℕ → Bool → Type 0) → (ℕ → Type 0) → List (ℕ × ℕ) → ℕ → ℕ → Type 0
Ran meets again changes b r = FoldsTo (Turns meets again) b changes r
