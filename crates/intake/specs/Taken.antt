-- Between functions: the map that a reader gives, in lent tables (RULES 5). What bytes come is open; the rest is the model's reading of them. Definitions only.
use Rattle.std.specs.Prelude.{ℕ, ◌^◌, ◌<◌, ◌≡◌, true, false, List, [], ◌∷◌, length, Result, Ok, Err}
use Rattle.held.specs.Holds.{Tables, needs}
use Rattle.mapfile.specs.Feeds.{EndsAs, Feeds}
use Rattle.model.specs.MapFile.{read_file}
use Rattle.model.specs.Refusal.{short}
use Rattle.mapfile.specs.Moves.{begun}
use Rattle.mapfile.specs.declared.state.FileRefusal.{FileRefusal}
use Rattle.model.specs.Limits.{need_window}
use Rattle.held.specs.declared.map.Map.{Map}
use Rattle.limits.specs.declared.refusal.Refusal.{Refusal}
use Rattle.intake.specs.declared.input.InputError.{InputError}

-- each length with its need: the buffer's, and the tables'
abbrev pub lent : List ℕ → Tables → List (ℕ × ℕ)
lent buffer t = (length buffer, need_window) ∷ needs t

-- the bytes came, the contents of the windows one after another: calls of `one_field` took their fields from the first on, with the tables t, up to the end a and the tables t';
-- and that is the model's reading of them
pub record Came (bytes : List ℕ) (t t' : Tables) (a : Result Map FileRefusal) : Type 0 where
  pub few : length bytes < 2 ^ 63
  pub run : Feeds begun t [] bytes a t'
  pub reads : EndsAs a t' (read_file bytes)

-- the end, by its cases. Where the input could not be read to its end, nothing is said of the tables
abbrev pub EndsWith : Result Map InputError → Tables → Tables → Type 0
EndsWith (Ok m) t t' = (bytes : List ℕ) × Came bytes t t' (Ok m)
EndsWith (Err (InputError.Refused x)) t t' = (bytes : List ℕ) × Came bytes t t' (Err x)
EndsWith (Err InputError.Unread) t t' = Unit {0}

-- what is lent is too short
abbrev pub too_short : FileRefusal
too_short = record { refusal = Refusal.ShortTable; field = 0 }

-- the call
pub record Taken (buffer buffer' : List ℕ) (t t' : Tables) (e : Result Map InputError) : Type 0 where
  pub lacking : short (lent buffer t) ≡ true → (e ≡ Err (InputError.Refused too_short)) × (buffer' ≡ buffer) × (t' ≡ t)
  pub taken : short (lent buffer t) ≡ false → EndsWith e t t'
