-- The listing that was written to a writer (RULES 6.3). What the writer takes is not said; this speaks of the lent buffer, whose front is written. Definitions only.
use Rattle.std.specs.Prelude.{ℕ, List, Result, Ok, Err}
use Rattle.intake.specs.Shown.{ShownInput}
use Rattle.intake.specs.declared.listing.ListError.{ListError}
use Rattle.intake.specs.declared.output.ShowError.{ShowError}

-- what is told of a listing that there is not
abbrev pub shown_as : ListError → ShowError
shown_as (ListError.Refused e) = ShowError.Unwritten
shown_as ListError.Unread = ShowError.Unread

-- an input that could not be read is told as that, and no other; where there is no listing, none was written
abbrev pub Puts : Result (Unit {0}) ShowError → Result ℕ ListError → Type 0
Puts (Ok u) (Ok n) = Unit {0}
Puts (Ok u) (Err e) = ⊥
Puts (Err ShowError.Unwritten) (Ok n) = Unit {0}
Puts (Err ShowError.Unwritten) (Err (ListError.Refused e)) = Unit {0}
Puts (Err ShowError.Unwritten) (Err ListError.Unread) = ⊥
Puts (Err ShowError.Unread) (Ok n) = ⊥
Puts (Err ShowError.Unread) (Err (ListError.Refused e)) = ⊥
Puts (Err ShowError.Unread) (Err ListError.Unread) = Unit {0}

-- o became o' as `list_input` has it
pub record Showed (buffer buffer' o o' : List ℕ) (a : Result (Unit {0}) ShowError) : Type 0 where
  pub shown : Result ℕ ListError
  pub input : ShownInput buffer buffer' o o' shown
  pub put : Puts a shown
