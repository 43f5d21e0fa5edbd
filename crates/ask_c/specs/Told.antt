-- An answer as a struct for C: the refusal, and the cell or none (RULES 2.4). Definitions only.
use Rattle.std.specs.Prelude.{ℕ, true, false, List, ◌≡◌, Float, pos, Option, Some, None, Result, Ok, Err}
use Rattle.held.specs.declared.map.Map.{Map}
use Rattle.answers.specs.Asks.{AsksNumbered}
use Rattle.limits.specs.Refusals.{number}
use Rattle.limits.specs.declared.cell.Cell.{Cell}
use Rattle.limits.specs.declared.refusal.Refusal.{Refusal}
use Rattle.plane.specs.declared.point.Point.{Point}
use Rattle.question.specs.Numbered.{question_of}
use Rattle.ask_c.specs.declared.Found.{Found}

-- the refusal's number, and the cell or none
abbrev pub found_as : ℕ → Option Cell → Found
found_as n None = record { refusal = n; some = false; cell = record { x = pos 0; y = pos 0 } }
found_as n (Some c) = record { refusal = n; some = true; cell = c }

abbrev pub found_of : Result (Option Cell) Refusal → Found
found_of (Ok o) = found_as 0 o
found_of (Err e) = found_as (number e) None

-- the call: the map's answer to the question that the shape's number names, as a struct
abbrev pub Asked : Map → List ℕ → ℕ → Point → Point → Float → Found → Type 0
Asked m cells shape p q extent r = (a : Result (Option Cell) Refusal) × AsksNumbered m cells (question_of shape p q extent) a × (r ≡ found_of a)
