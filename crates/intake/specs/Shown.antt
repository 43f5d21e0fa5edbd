-- The listing of the map file that a reader gives, in a lent buffer (RULES 6). Definitions only.
use Rattle.std.specs.Prelude.{ℕ, ◌^◌, ◌<◌, ◌≡◌, true, false, List, [], ◌∷◌, length, Result, Ok, Err}
use Rattle.answers.specs.Told.{counted}
use Rattle.limits.specs.declared.refusal.Refusal.{Refusal}
use Rattle.report.specs.Filed.{Listed}
use Rattle.model.specs.Refusal.{short}
use Rattle.model.specs.Limits.{need_listing, need_window}
use Rattle.intake.specs.declared.listing.ListError.{ListError}

-- each length with its need: the buffer's through which the input is read, and the listing's
abbrev pub lent_out : List ℕ → List ℕ → List (ℕ × ℕ)
lent_out buffer o = (length buffer, need_window) ∷ (length o, need_listing) ∷ []

-- the answer, by its cases: bytes came, and o became o' as `list_file` has it of these bytes; or nothing is listed
abbrev pub Tells : Result ℕ ListError → List ℕ → List ℕ → Type 0
Tells (Ok n) o o' = (bytes : List ℕ) × (length bytes < 2 ^ 63) × Listed bytes o o' (counted (Ok n))
Tells (Err (ListError.Refused e)) o o' = (bytes : List ℕ) × (length bytes < 2 ^ 63) × Listed bytes o o' (counted (Err e))
Tells (Err ListError.Unread) o o' = o' ≡ o

-- the call
pub record ShownInput (buffer buffer' o o' : List ℕ) (a : Result ℕ ListError) : Type 0 where
  pub lacking : short (lent_out buffer o) ≡ true → (a ≡ Err (ListError.Refused Refusal.ShortTable)) × (buffer' ≡ buffer) × (o' ≡ o)
  pub shown : short (lent_out buffer o) ≡ false → Tells a o o'
