-- For floors, at no border: a batch on a floor, whole: its refusals, its answer, and every lent table afterwards. Definitions only.
use Rattle.std.specs.Prelude.{ℕ, suc, ◌≤◌, ◌≡◌, ◌⊎◌, Bool, false, List, [], ◌∷◌, ◌++◌, ltb, ℤ, length, drop, Float, Result, Ok}
use Rattle.model.specs.Batch.{cells_after, confirmed, corner_changes}
use Rattle.model.specs.Limits.{max_batch, max_cells, need_confirmed, need_corners}
use Rattle.model.specs.Map.{Entry, to_batch}
use Rattle.model.specs.Refusal.{verdict, short, bad_size, unsorted, outside}
use Rattle.corner.specs.Changes.{numbered}
use Rattle.table.specs.Listed.{Listed}
use Rattle.table.specs.Tables.{pad}
use Rattle.limits.specs.Floor.{Holds}
use Rattle.limits.specs.Batches.{disorder, entries, flags}
use Rattle.limits.specs.Refusals.{code}
use Rattle.batches.specs.declared.lists.Outputs.{Outputs}
use Rattle.grid.specs.declared.change.Changed.{Changed}
use Rattle.limits.specs.declared.floor.Floor.{Floor}
use Rattle.limits.specs.declared.refusal.Refusal.{Refusal}

-- ---- the lent tables: the cells; the confirmed changes with 1 or 0; the corner changes with their statuses
pub record Lent : Type 0 where
  pub cells : List ℕ
  pub confirmed : List ℕ
  pub full : List ℕ
  pub corners : List ℕ
  pub altered : List ℕ

abbrev pub lent_of : List ℕ → List ℕ → List ℕ → List ℕ → List ℕ → Lent
lent_of cells confirmed full corners altered = record { cells = cells; confirmed = confirmed; full = full; corners = corners; altered = altered }

abbrev pub lists_of : List ℕ → Outputs → Lent
lists_of cells o = lent_of cells o.confirmed.now o.full.now o.corners.now o.altered.now

-- each length with its need
unfoldable pub short_of : ℕ → ℕ → ℕ → ℕ → ℕ → Bool
short_of cells confirmed full corners altered =
    short ((cells, max_cells) ∷ (confirmed, need_confirmed) ∷ (full, need_confirmed) ∷ (corners, need_corners) ∷ (altered, need_corners) ∷ [])

abbrev pub short_for : Lent → Bool
short_for t = short_of (length t.cells) (length t.confirmed) (length t.full) (length t.corners) (length t.altered)

-- the model's refusals of a batch (`judge`), for a floor of which no layer is asked: whether a table is short, the cell size, the batch as it is handed in, whether there are too many cells
unfoldable pub refuse_change : Bool → Float → List ℤ → Bool → ℕ
refuse_change lent c b crowded =
    verdict ((9, lent) ∷ (1, bad_size c) ∷ (3, ltb max_batch (length (entries b))) ∷ (4, disorder b) ∷ (5, outside (entries b)) ∷ (6, crowded) ∷ [])

-- what the input alone decides, the number of cells handed in among it; 0 for nothing
abbrev pub refuse_input : Floor → List ℤ → Lent → ℕ
refuse_input floor b t = refuse_change (short_for t) floor.size b (ltb max_cells floor.cells)

-- ---- what an accepted batch of the entries l makes of the cells C and the tables t
pub record Done (floor : Floor) (C : List ℕ) (l : List Entry) (t t' : Lent) (r : Changed) : Type 0 where
  pub answer : r ≡ record { confirmed = length (confirmed (to_batch l) C); corners = length (corner_changes C (cells_after (to_batch l) C) (confirmed (to_batch l) C)); floor = record { size = floor.size; cells = length (cells_after (to_batch l) C) } }
  pub cells : t'.cells ≡ pad max_cells (cells_after (to_batch l) C) ++ drop max_cells t.cells
  pub holds : Holds t'.cells (length (cells_after (to_batch l) C)) (cells_after (to_batch l) C)
  pub changes : Listed (flags (confirmed (to_batch l) C)) t.confirmed t'.confirmed t.full t'.full r.confirmed
  pub altered : Listed (numbered (corner_changes C (cells_after (to_batch l) C) (confirmed (to_batch l) C))) t.corners t'.corners t.altered t'.altered r.corners

-- what is known once nothing refuses the entries l: the cells C, and room for what is listed
pub record Applying (t : List ℕ) (n : ℕ) (C : List ℕ) (l : List Entry) (c s : ℕ) : Type 0 where
  pub holds : Holds t n C
  pub few : length l ≤ max_batch
  pub order : unsorted l ≡ false
  pub bounds : outside l ≡ false
  pub room : length (cells_after (to_batch l) C) ≤ max_cells
  pub corners : need_corners ≤ c
  pub altered : need_corners ≤ s

-- ---- the call: a refused one answers its refusal and leaves every table as it was. A floor whose table holds no cells so (no call gives one) may only be refused, or changed in a way that is not promised
pub record Changing (floor : Floor) (b : List ℤ) (t t' : Lent) (r : Result Changed Refusal) : Type 0 where
  pub input : (n : ℕ) → refuse_input floor b t ≡ suc n → code r ≡ suc n
  pub refusal : (C : List ℕ) → Holds t.cells floor.cells C → code r ≡ refuse_change (short_for t) floor.size b (ltb max_cells (length (cells_after (to_batch (entries b)) C)))
  pub refused : (n : ℕ) → code r ≡ suc n → t' ≡ t
  pub done : (C : List ℕ) → Holds t.cells floor.cells C → (c : Changed) → r ≡ Ok c → Done floor C (entries b) t t' c

-- the calls that the record above decides whole: of a floor that holds its cells, and any that the input alone refuses
abbrev pub Decided : Floor → List ℤ → Lent → Type 0
Decided floor b t = ((C : List ℕ) × Holds t.cells floor.cells C) ⊎ ((n : ℕ) × (refuse_input floor b t ≡ suc n))
