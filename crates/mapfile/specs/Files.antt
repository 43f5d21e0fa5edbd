-- A whole map file, read into a map's lent tables (RULES 5; the model's `read_file`). Definitions only.
use Rattle.std.specs.Prelude.{◌≡◌, ℕ, true, false, List, Float}
use Rattle.model.specs.Map as model
use Rattle.model.specs.MapFile.{Reading, done, more, read_file, refused}
use Rattle.model.specs.Refusal.{opened, run, short}
use Rattle.held.specs.Holds.{Behind, Holds, Tables, needs, no_map}
use Rattle.mapfile.specs.declared.file.Opened.{Opened}

-- what a refusal answers: the number, the field, and no map
abbrev pub refused_at : ℕ → ℕ → Opened
refused_at n f = record { refusal = n; field = f; map = no_map }

-- the answer r and the tables t', by the model's reading of the file: its map, with the unused rest beyond the needs as it was; or its refusal, with every table as it was. No file's reading goes on
abbrev pub OpensAs : Reading → Tables → Tables → Opened → Type 0
OpensAs (more R b) t t' r = ⊥
OpensAs (refused n f) t t' r = (r ≡ refused_at n f) × (t' ≡ t)
OpensAs (done M) t t' r = (r.refusal ≡ 0) × (r.field ≡ 0) × Holds r.map t' M × Behind t t'

-- the call
pub record FileRead (b : List ℕ) (t t' : Tables) (r : Opened) : Type 0 where
  pub lacking : short (needs t) ≡ true → (r ≡ refused_at 9 0) × (t' ≡ t)
  pub reads : short (needs t) ≡ false → OpensAs (read_file b) t t' r

-- a map that some run of operations from an opening gives: what `demand3` says of every run holds of it
abbrev pub Ran : model.Map → Type 0
Ran M = (c : Float) × (r : Float) × (os : List model.Op) × (M ≡ run os (opened c r))
