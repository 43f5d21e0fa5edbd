-- A batch as it is handed in, its confirmed changes as they are listed, and what such a list does to a table. Definitions only.
use Rattle.std.specs.Prelude.{ℕ, zero, suc, ◌%◌, ◌≤◌, ◌≡◌, Bool, true, false, not, cond, ◌||◌, List, [], ◌∷◌, eqb, length, take, ℤ, pos, negsuc}
use Rattle.std.specs.Bool.{beq}
use Rattle.model.specs.Batch.{Batch, write}
use Rattle.model.specs.Map.{Entry}
use Rattle.model.specs.Maps.{keys}
use Rattle.model.specs.Refusal.{unsorted}
use Rattle.table.specs.Listed.{values}
use Rattle.table.specs.Tables.{Table}

-- 0 is free, any other number occupied
abbrev pub is_full : ℤ → Bool
is_full (pos zero) = false
is_full (pos (suc n)) = true
is_full (negsuc n) = true

-- three numbers an entry; a number or two at the end that are no entry make the batch ragged
abbrev pub entries : List ℤ → List Entry
entries [] = []
entries (x ∷ []) = []
entries (x ∷ y ∷ []) = []
entries (x ∷ y ∷ o ∷ l) = record { x = x; y = y; full = is_full o } ∷ entries l

-- the length is no multiple of three
unfoldable pub ragged : List ℤ → Bool
ragged b = not (eqb (length b % 3) 0)

-- 4: a batch that cannot be read is none that ascends (docs/DIFFERENCES.md)
abbrev pub disorder : List ℤ → Bool
disorder b = ragged b || unsorted (entries b)

-- an entry on a cell that is occupied or not alters it
abbrev pub alters : Bool → Bool → Bool
alters there full = not (beq there full)

-- confirmed changes as they are listed: 1 for occupied, 0 for free
abbrev pub flags : Batch → List (ℕ × ℕ)
flags [] = []
flags (e ∷ b) = (e.0, cond e.1 1 0) ∷ flags b

-- the entries that say v, in turn
unfoldable pub writes : Bool → Batch → List ℕ → List ℕ
writes v [] C = C
writes v (e ∷ b) C = writes v b (cond (beq e.1 v) (write e.0 v C) C)

-- the table t with n keys became t' with r keys: those entries of the listed batch that say v were written, where they fit
abbrev pub Written : Bool → List ℕ → List ℕ → List ℕ → ℕ → List ℕ → ℕ → Type 0
Written v confirmed full t n t' r =
    (b : Batch) → confirmed ≡ keys b → full ≡ values (flags b) → Table t n → length (writes v b (take n t)) ≤ length t → Table t' r × (take r t' ≡ writes v b (take n t))
