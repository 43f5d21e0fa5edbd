-- A batch on a map, whole: its refusals, its answer, and every lent table afterwards (RULES 2.3, 7.1, 4; occupancy/mod.rs, `Visibility::change_cells`). Definitions only.
use Rattle.std.specs.Prelude.{ℕ, suc, ◌<◌, ◌≡◌, ◌⊎◌, Bool, false, true, List, [], ◌∷◌, ◌++◌, ltb, ℤ, length}
use Rattle.corner.specs.Changes.{numbered}
use Rattle.limits.specs.Floor as floor
use Rattle.limits.specs.Batches.{disorder, entries, flags, ragged}
use Rattle.model.specs.Batch.{cells_after, confirmed, corner_changes}
use Rattle.model.specs.Limits.{max_batch, max_cells, max_points, need_confirmed, need_corners}
use Rattle.model.specs.Map as model
use Rattle.model.specs.Refusal.{bad_radius, bad_size, judge, outside, short, verdict}
use Rattle.table.specs.Listed.{Listed}
use Rattle.held.specs.Holds.{Behind, Holds, Tables, needs, no_map, tables_of}
use Rattle.visibility.specs.declared.change.Changed.{Changed}
use Rattle.held.specs.declared.map.Map.{Map}

-- the map's tables; the confirmed changes with 1 or 0; the corner changes with their statuses
pub record Lent : Type 0 where
  pub tables : Tables
  pub confirmed : List ℕ
  pub full : List ℕ
  pub corners : List ℕ
  pub altered : List ℕ

-- nine lists as what a batch is lent
abbrev pub lent_of : List ℕ → List ℕ → List ℕ → List ℕ → List ℕ → List ℕ → List ℕ → List ℕ → List ℕ → Lent
lent_of cells points statuses blockers pairs confirmed full corners altered =
    record { tables = tables_of cells points statuses blockers pairs; confirmed = confirmed; full = full; corners = corners; altered = altered }

abbrev pub lent_needs : Lent → List (ℕ × ℕ)
lent_needs t = needs t.tables ++ ((length t.confirmed, need_confirmed) ∷ (length t.full, need_confirmed) ∷ (length t.corners, need_corners) ∷ (length t.altered, need_corners) ∷ [])

-- the model's refusals of a batch (`judge`): whether a table is short, the map and the batch as they are handed in, whether there are too many cells or points
unfoldable pub refuse_batch : Bool → Map → List ℤ → Bool → Bool → ℕ
refuse_batch lent m b crowded packed =
    verdict
    ((9, lent)
    ∷ (1, bad_size m.size)
    ∷ (2, bad_radius m.size m.radius)
    ∷ (3, ltb max_batch (length (entries b)))
    ∷ (4, disorder b)
    ∷ (5, outside (entries b))
    ∷ (6, crowded)
    ∷ (7, packed)
    ∷ [])

-- what the input alone decides, the number of cells handed in among it; 0 for nothing
abbrev pub refuse_input : Map → List ℤ → Lent → ℕ
refuse_input m b t = refuse_batch (short (lent_needs t)) m b (ltb max_cells m.cells) false

-- a refused call answers its number, and all else is zero
abbrev pub refused_with : ℕ → Changed
refused_with n = record { refusal = n; yes = false; confirmed = 0; corners = 0; map = no_map }

-- ---- what an accepted batch of the entries l makes of the model's map M
abbrev pub changes_of : model.Map → List model.Entry → List (ℕ × ℕ)
changes_of M l = flags (confirmed (model.to_batch l) M.cells)

abbrev pub corners_of : model.Map → List model.Entry → List (ℕ × ℕ)
corners_of M l = numbered (corner_changes M.cells (cells_after (model.to_batch l) M.cells) (confirmed (model.to_batch l) M.cells))

pub record Done (m : Map) (M : model.Map) (l : List model.Entry) (t t' : Lent) (r : Changed) : Type 0 where
  pub answer : r ≡ record {
    refusal = 0;
    yes = ltb 0 (length (changes_of M l));
    confirmed = length (changes_of M l);
    corners = length (corners_of M l);
    map = record { size = m.size; radius = m.radius; cells = length (model.next (model.batch l) M).cells; points = length (model.next (model.batch l) M).layer.points };
  }
  pub holds : Holds r.map t'.tables (model.next (model.batch l) M)
  pub behind : Behind t.tables t'.tables
  pub changes : Listed (changes_of M l) t.confirmed t'.confirmed t.full t'.full r.confirmed
  pub altered : Listed (corners_of M l) t.corners t'.corners t.altered t'.altered r.corners

-- ---- the call. A map whose tables hold none (no call gives one) may only be refused, or changed in a way that is not promised
pub record Changing (m : Map) (b : List ℤ) (t t' : Lent) (r : Changed) : Type 0 where
  -- a ragged batch is refused so, too
  pub input : (n : ℕ) → refuse_input m b t ≡ suc n → r ≡ refused_with (suc n)
  -- a map that comes with too many points is refused whatever the tables hold; where they hold the cells, it is known with which number
  pub overfull : max_points < m.points → refuse_input m b t ≡ 0 → (r.refusal ≡ 6) ⊎ (r.refusal ≡ 7)
  pub packed : (C : List ℕ) → floor.Holds t.tables.cells m.cells C → max_points < m.points → r.refusal ≡ refuse_batch (short (lent_needs t)) m b (ltb max_cells (length (cells_after (model.to_batch (entries b)) C))) true
  pub refusal : ragged b ≡ false → (M : model.Map) → Holds m t.tables M → r.refusal ≡ judge (lent_needs t) (model.batch (entries b)) M (model.next (model.batch (entries b)) M)
  pub refused : (n : ℕ) → r.refusal ≡ suc n → (t' ≡ t) × (r ≡ refused_with (suc n))
  pub done : (M : model.Map) → Holds m t.tables M → r.refusal ≡ 0 → Done m M (entries b) t t' r

-- the calls that the record above decides whole: of tables that hold a map, any that the input alone refuses, and of too many points over cells that are held
abbrev pub Decided : Map → List ℤ → Lent → Type 0
Decided m b t = ((M : model.Map) × Holds m t.tables M) ⊎ ((n : ℕ) × (refuse_input m b t ≡ suc n)) ⊎ ((C : List ℕ) × floor.Holds t.tables.cells m.cells C × (max_points < m.points))
