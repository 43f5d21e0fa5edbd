-- Between functions: a file that is read through a window: the bytes that were read already and not yet taken (RULES 5; the model's MapFile). Definitions only.
use Rattle.std.specs.Prelude.{◌≡◌, ℕ, ◌≤◌, ◌⊎◌, List, [], ◌++◌, length}
use Rattle.model.specs.Limits.{need_window}
use Rattle.model.specs.Map.{Map}
use Rattle.model.specs.MapFile.{Reader, Reading, done, more, one_field, refused}

-- a reading with the bytes m after those that are left
abbrev pub extend : List ℕ → Reading → Reading
extend m (more R b) = more R (b ++ m)
extend m (refused n f) = refused n f
extend m (done M) = done M

-- the window w has as many bytes as the longest field, or nothing is left to read
abbrev pub Wide : List ℕ → List ℕ → Type 0
Wide w rest = (need_window ≤ length w) ⊎ (rest ≡ [])

-- the readings to which windows lead: from the reader R, the window w, and the bytes that were not read
pub data Reads : Reader → List ℕ → List ℕ → Reading → Type 0 where
  -- more bytes are read, after those of the window
  fill : {R : Reader} {w : List ℕ} (a : List ℕ) {rest : List ℕ} {s : Reading} → Reads R (w ++ a) rest s → Reads R w (a ++ rest) s
  -- one field is taken from the window
  take : {R : Reader} {w rest : List ℕ} {R' : Reader} {w' : List ℕ} {s : Reading} → Wide w rest → one_field R w ≡ more R' w' → Reads R' w' rest s → Reads R w rest s
  stop_refused : {R : Reader} {w rest : List ℕ} {n f : ℕ} → Wide w rest → one_field R w ≡ refused n f → Reads R w rest (refused n f)
  stop_done : {R : Reader} {w rest : List ℕ} {M : Map} → Wide w rest → one_field R w ≡ done M → Reads R w rest (done M)
