-- Between functions: a batch that nothing but the number of points may refuse. Definitions only.
use Rattle.std.specs.Prelude.{ℕ, ◌≤◌, ◌≡◌, ◌⊎◌, true, false, List, drop, ltb, length}
use Rattle.corner.specs.Changes.{numbered}
use Rattle.limits.specs.Batches.{flags}
use Rattle.limits.specs.Floor as floor
use Rattle.model.specs.Batch as batch
use Rattle.model.specs.Cell as cell
use Rattle.model.specs.ClosedForm.{marks_in}
use Rattle.model.specs.Limits.{max_batch, max_cells, max_points, need_confirmed, need_corners}
use Rattle.model.specs.Map as model
use Rattle.model.specs.Maps.{AscL, keys}
use Rattle.model.specs.Refusal.{bad_radius, outside, unsorted}
use Rattle.sight.specs.Blocked.{words_of}
use Rattle.table.specs.Listed.{Listed, values}
use Rattle.visibility.specs.Change.{Done, Lent, changes_of, corners_of, refused_with}
use Rattle.held.specs.Holds.{Holds, Tables}
use Rattle.visibility.specs.Layers.{stood_of}
use Rattle.visibility.specs.declared.change.Changed.{Changed}
use Rattle.held.specs.declared.map.Map.{Map}

-- what is known once the map handed in, the entries l and the number of cells afterwards have passed
pub record Updating (m : Map) (t : Tables) (M : model.Map) (l : List model.Entry) : Type 0 where
  pub holds : Holds m t M
  pub radius : bad_radius M.size M.layer.radius ≡ false
  pub few : length l ≤ max_batch
  pub order : unsorted l ≡ false
  pub bounds : outside l ≡ false
  pub room : length (batch.cells_after (model.to_batch l) M.cells) ≤ max_cells

-- the confirmed changes and the corner changes of the entries l are listed, of the cells C
abbrev pub Lists : List model.Entry → List ℕ → List ℕ → List ℕ → List ℕ → List ℕ → ℕ → List ℕ → List ℕ → List ℕ → List ℕ → ℕ → Type 0
Lists l C confirmed confirmed' full full' changes corners corners' altered altered' found =
    AscL 0 C → unsorted l ≡ false → outside l ≡ false
    → Listed (flags (batch.confirmed (model.to_batch l) C)) confirmed confirmed' full full' changes
    × Listed (numbered (batch.corner_changes C (batch.cells_after (model.to_batch l) C) (batch.confirmed (model.to_batch l) C))) corners corners' altered altered' found

-- the points afterwards
abbrev pub points_after : model.Map → List model.Entry → ℕ
points_after M l = length (model.next (model.batch l) M).layer.points

-- and once these have passed too: the lists that were made meanwhile
pub record Finishing (m : Map) (t : Tables) (M : model.Map) (l : List model.Entry) (confirmed full corners altered present moods : List ℕ) : Type 0 where
  pub updating : Updating m t M l
  pub packed : points_after M l ≤ max_points
  pub confirmed_are : confirmed ≡ keys (changes_of M l)
  pub full_are : full ≡ values (changes_of M l)
  pub corners_are : corners ≡ keys (corners_of M l)
  pub altered_are : altered ≡ values (corners_of M l)
  pub keys_are : present ≡ keys (model.next (model.batch l) M).layer.points
  pub moods_are : moods ≡ words_of (stood_of (marks_in (model.shift_of M.size M.layer.radius) M.cells (model.to_batch l)) M.layer.points (model.next (model.batch l) M).layer.points)

-- the listed changes are made in the first places of the table t, of which n are used: as many are used then, and they fit
abbrev pub CommitsCells : List ℕ → List ℕ → List ℕ → ℕ → List ℕ → ℕ → Type 0
CommitsCells confirmed full t n t' used =
    (used ≤ max_cells) × (length t' ≡ length t) × ((M : model.Map) (l : List model.Entry) → floor.Holds t n M.cells → unsorted l ≡ false → outside l ≡ false
    → length (batch.cells_after (model.to_batch l) M.cells) ≤ max_cells → confirmed ≡ keys (batch.confirmed (model.to_batch l) M.cells) → full ≡ values (flags (batch.confirmed (model.to_batch l) M.cells))
    → floor.Holds t' used (batch.cells_after (model.to_batch l) M.cells) × (drop max_cells t' ≡ drop max_cells t))

-- with those lists the batch is done, and no longer refused
abbrev pub Finishes : Map → Lent → Lent → List ℕ → List ℕ → List ℕ → List ℕ → List ℕ → List ℕ → ℕ → Changed → Type 0
Finishes m t t' confirmed full corners altered present moods reach r =
    (r.refusal ≡ 0)
    × ((M : model.Map) (l : List model.Entry) → reach ≡ cell.reach (model.shift_of M.size M.layer.radius) → Finishing m t.tables M l confirmed full corners altered present moods
    → need_confirmed ≤ length t.confirmed → need_confirmed ≤ length t.full → need_corners ≤ length t.corners → need_corners ≤ length t.altered → Done m M l t t' r)

-- the outcome of such a batch
pub record Updated (m : Map) (l : List model.Entry) (t t' : Lent) (r : Changed) : Type 0 where
  pub either : (r.refusal ≡ 0) ⊎ ((r ≡ refused_with 7) × (t' ≡ t))
  pub packed : (M : model.Map) → Updating m t.tables M l → ltb max_points (points_after M l) ≡ true → r.refusal ≡ 7
  pub done : (M : model.Map) → Updating m t.tables M l → ltb max_points (points_after M l) ≡ false → Done m M l t t' r
