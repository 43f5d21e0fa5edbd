-- Between functions: text in a lent buffer, and lines of columns of numbers (the model's Listing has the lines). Definitions only.
use Rattle.std.specs.Prelude.{ℕ, zero, suc, ◌+◌, ◌*◌, ◌≤◌, ◌≡◌, Bool, true, false, ◌&&◌, List, [], ◌∷◌, ◌++◌, leb, drop, length, take}
use Rattle.std.proofs.Math.Option.{Option, none, some}
use Rattle.model.specs.Limits.{line_room}
use Rattle.model.specs.Listing.{pair_line, point_line}

-- s is in t' from the place `at` up to r, and all else is as it was in t
pub record Put (s : List ℕ) (at r : ℕ) (t t' : List ℕ) : Type 0 where
  pub end : r ≡ at + length s
  pub is : t' ≡ take at t ++ s ++ drop r t

-- with room, s is written and needs no more than that; without, nothing is
pub record Printed (roomy : Bool) (room : ℕ) (s : List ℕ) (at r : ℕ) (t t' : List ℕ) : Type 0 where
  pub done : roomy ≡ true → Put s at r t t' × (length s ≤ room)
  pub lacking : roomy ≡ false → (r ≡ at) × (t' ≡ t)

-- ---- columns
-- a blocker's code: 0 for none, or its key
abbrev pub block_of : ℕ → Option ℕ
block_of zero = none
block_of (suc k) = some (suc k)

-- a line for each entry that all three columns have
abbrev pub rows : {B : Type 0} → (ℕ → B → ℕ → List ℕ) → List ℕ → List B → List ℕ → List ℕ
rows line [] b c = []
rows line (x ∷ a) [] c = []
rows line (x ∷ a) (y ∷ b) [] = []
rows line (x ∷ a) (y ∷ b) (z ∷ c) = line x y z ++ rows line a b c

-- of a key, a status and a blocker's code; of a lesser cell, a greater cell and a blocker's code
abbrev pub point_row : ℕ → ℕ → ℕ → List ℕ
point_row k s b = point_line k s (block_of b)

abbrev pub pair_row : ℕ → ℕ → ℕ → List ℕ
pair_row j k b = pair_line j k (block_of b)

-- n lines fit: the other columns have n entries too, and from the place `at` on there is room for n lines in so many bytes
abbrev pub lines_fit : ℕ → ℕ → ℕ → ℕ → ℕ → Bool
lines_fit n second third at bytes = leb n second && leb n third && leb (at + line_room * n) bytes

-- the lines of three columns were written, if they fit
abbrev pub PrintedRows : {B : Type 0} → (ℕ → B → ℕ → List ℕ) → List ℕ → List B → List ℕ → ℕ → ℕ → List ℕ → List ℕ → Type 0
PrintedRows line a b c at r t t' = Printed (lines_fit (length a) (length b) (length c) at (length t)) (line_room * length a) (rows line a b c) at r t t'
