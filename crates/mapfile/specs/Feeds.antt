-- Between functions: runs of calls that read a file through windows, as the contracts alone have them: the fold that a program with a fixed buffer runs. Definitions only.
use Rattle.std.specs.Prelude.{◌≡◌, ℕ, List, ◌++◌, drop, Result, Ok, Err}
use Rattle.mapfile.specs.Windows.{Wide}
use Rattle.model.specs.Map as map
use Rattle.model.specs.MapFile as model
use Rattle.limits.specs.Refusals.{number}
use Rattle.held.specs.Holds.{Holds, Tables}
use Rattle.held.specs.declared.map.Map.{Map}
use Rattle.mapfile.specs.Reads.{FieldRead}
use Rattle.mapfile.specs.declared.state.FileRefusal.{FileRefusal}
use Rattle.mapfile.specs.declared.state.Reader.{Reader}
use Rattle.mapfile.specs.declared.state.Reading.{Reading}

-- how a reading ends, as the answer of its last call
abbrev pub last : Result Map FileRefusal → Result Reading FileRefusal
last (Ok m) = Ok (Reading.Done m)
last (Err x) = Err x

-- from the reader r and the tables t, the window w and the bytes that were not read, to the end and the tables then
pub data Feeds : Reader → Tables → List ℕ → List ℕ → Result Map FileRefusal → Tables → Type 0 where
  -- more bytes are read, after those of the window
  fill : {r : Reader} {t : Tables} {w : List ℕ} (a : List ℕ) {rest : List ℕ} {e : Result Map FileRefusal} {t'' : Tables} → Feeds r t (w ++ a) rest e t'' → Feeds r t w (a ++ rest) e t''
  -- a call takes a field from the window, and the next call goes on after it
  on : {r : Reader} {t : Tables} {w rest : List ℕ} {r' : Reader} {used : ℕ} {t' : Tables} {e : Result Map FileRefusal} {t'' : Tables} → Wide w rest → FieldRead r w t t' (Ok (Reading.More r' used)) → Feeds r' t' (drop used w) rest e t'' → Feeds r t w rest e t''
  -- a call refuses the field, or finds the end
  stop : {r : Reader} {t : Tables} {w rest : List ℕ} {e : Result Map FileRefusal} {t' : Tables} → Wide w rest → FieldRead r w t t' (last e) → Feeds r t w rest e t'

-- the end and the tables then, beside the model's reading s of the whole file: its map is held, or it is refused at that field
abbrev pub EndsAs : Result Map FileRefusal → Tables → model.Reading → Type 0
EndsAs (Ok m) t s = (M : map.Map) × (s ≡ model.done M) × Holds m t M
EndsAs (Err x) t s = s ≡ model.refused (number x.refusal) x.field
