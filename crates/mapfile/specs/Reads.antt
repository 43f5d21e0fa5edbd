-- Between functions: one field of a map file taken over a state, into a map's lent tables (RULES 5; the model's `one_field`). Definitions only.
use Rattle.std.specs.Prelude.{◌≡◌, ℕ, suc, ◌^◌, ◌<◌, ◌≤◌, true, false, cond, List, length, drop, Result, Ok, Err}
use Rattle.mapfile.specs.Fields.{expected_of}
use Rattle.mapfile.specs.declared.head.Expected.{Expected}
use Rattle.limits.specs.Refusals.{number}
use Rattle.limits.specs.declared.refusal.Refusal.{Refusal}
use Rattle.model.specs.Map as map
use Rattle.model.specs.MapFile as model
use Rattle.model.specs.MapFile.{float64, one_field, take_batch, take_radius}
use Rattle.model.specs.Refusal.{bad_size, short}
use Rattle.held.specs.Holds.{Behind, Holds, Tables, needs, no_map}
use Rattle.held.specs.declared.map.Map.{Map}
use Rattle.mapfile.specs.Moves.{moved_on}
use Rattle.mapfile.specs.declared.state.FileRefusal.{FileRefusal}
use Rattle.mapfile.specs.declared.state.Reader.{Reader}
use Rattle.mapfile.specs.declared.state.Reading.{Reading}

-- ---- the state
-- what is known of the map by what is expected: there is none before field 02 was taken, and the cell size is good once field 01 was
abbrev pub HoldsMap : model.Expected → Map → Tables → model.Reader → Type 0
HoldsMap model.size m t R = m ≡ no_map
HoldsMap model.radius m t R = (m ≡ no_map) × (bad_size R.cell_size ≡ false)
HoldsMap model.batches m t R = Holds m t R.map
HoldsMap model.end m t R = Holds m t R.map

-- the struct r and the tables t hold the model's reader R
pub record HoldsReader (r : Reader) (t : Tables) (R : model.Reader) : Type 0 where
  pub expected : expected_of r.expected ≡ R.expected
  pub field : r.field ≡ R.field
  pub size : r.size ≡ R.cell_size
  pub holds : HoldsMap R.expected r.map t R

-- ---- an answer
-- what each case says of the model's reading s of the bytes b: it goes on after `used` of them; it is refused; it is done. t are the tables then
abbrev pub Says : Result Reading FileRefusal → List ℕ → Tables → model.Reading → Type 0
Says (Ok (Reading.More r used)) b t s = (R : model.Reader) × (s ≡ model.more R (drop used b)) × HoldsReader r t R
Says (Ok (Reading.Done m)) b t s = (M : map.Map) × (s ≡ model.done M) × Holds m t M
Says (Err x) b t s = s ≡ model.refused (number x.refusal) x.field

-- the tables afterwards, beyond what they hold: a map that is opened or changed leaves the unused rest beyond the needs as it was, anything else leaves every table as it was
abbrev pub LeftAt : Expected → Tables → Tables → Type 0
LeftAt Expected.Size t t' = t' ≡ t
LeftAt Expected.Radius t t' = t' ≡ t
LeftAt Expected.Batches t t' = Behind t t'
LeftAt Expected.End t t' = t' ≡ t

abbrev pub Left : Result Reading FileRefusal → Tables → Tables → Type 0
Left (Ok (Reading.More r used)) t t' = LeftAt r.expected t t'
Left (Ok (Reading.Done m)) t t' = t' ≡ t
Left (Err x) t t' = t' ≡ t

-- the call. Of a reader and tables that hold none of the model's (no run of calls from `begin` gives such) no more is promised than that a refusal leaves every table as it was and that the field lies within the bytes
pub record FieldRead (r : Reader) (b : List ℕ) (t t' : Tables) (a : Result Reading FileRefusal) : Type 0 where
  pub lacking : short (needs t) ≡ true → (a ≡ Err (record { refusal = Refusal.ShortTable; field = r.field })) × (t' ≡ t)
  pub reads : short (needs t) ≡ false → (R : model.Reader) → HoldsReader r t R → suc R.field < 2 ^ 64 → Says a b t' (one_field R b) × Left a t t'
  pub refused : (x : FileRefusal) → a ≡ Err x → t' ≡ t
  pub within : (r' : Reader) (used : ℕ) → a ≡ Ok (Reading.More r' used) → (3 ≤ used) × (used ≤ length b)

-- ---- its parts
-- a refusal, of the field f
abbrev pub at_field : ℕ → Result Reading Refusal → Result Reading FileRefusal
at_field f (Ok a) = Ok a
at_field f (Err e) = Err (record { refusal = e; field = f })

abbrev pub refused_as : Refusal → Reader → Result Reading FileRefusal
refused_as e r = Err (record { refusal = e; field = r.field })

abbrev pub stopped_as : Expected → Reader → Result Reading FileRefusal
stopped_as Expected.Size r = refused_as Refusal.BadFile r
stopped_as Expected.Radius r = refused_as Refusal.BadFile r
stopped_as Expected.Batches r = refused_as Refusal.BadFile r
stopped_as Expected.End r = Ok (Reading.Done r.map)

abbrev pub stopped_at : Reader → Result Reading FileRefusal
stopped_at r = stopped_as r.expected r

-- the value v, of a field with `used` bytes
abbrev pub size_taken : Reader → List ℕ → ℕ → Result Reading FileRefusal
size_taken r v used = let c = float64 v in cond (bad_size c) (refused_as Refusal.CellSize r) (Ok (Reading.More (moved_on r Expected.Radius c r.map) used))

-- the value v of a field with `used` bytes was taken where e is expected, as the model's `takes` has it; a refusal leaves every table as it was
pub record Took (e : model.Expected) (takes : model.Reader → List ℕ → List ℕ → model.Reading) (r : Reader) (v : List ℕ) (used : ℕ) (t t' : Tables) (a : Result Reading FileRefusal) : Type 0 where
  pub refused : (x : FileRefusal) → a ≡ Err x → t' ≡ t
  pub within : (r' : Reader) (n : ℕ) → a ≡ Ok (Reading.More r' n) → n ≡ used
  pub reads : short (needs t) ≡ false → (R : model.Reader) → HoldsReader r t R → R.expected ≡ e → suc R.field < 2 ^ 64 → (b : List ℕ) → Says a b t' (takes R v (drop used b)) × Left a t t'

-- field 02; field 03
abbrev pub TookRadius : Reader → List ℕ → ℕ → Tables → Tables → Result Reading FileRefusal → Type 0
TookRadius = Took model.radius take_radius

abbrev pub TookBatch : Reader → List ℕ → ℕ → Tables → Tables → Result Reading FileRefusal → Type 0
TookBatch = Took model.batches take_batch
