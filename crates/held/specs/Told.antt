-- Between functions: an answer as the border has it, a struct with the refusal's number. Definitions only.
use Rattle.std.specs.Prelude.{Result, Ok, Err}
use Rattle.limits.specs.declared.refusal.Refusal.{Refusal}
use Rattle.limits.specs.Refusals.{number}
use Rattle.held.specs.Holds.{no_map}
use Rattle.held.specs.declared.map.Map.{Map}
use Rattle.held.specs.declared.map.Outcome.{Outcome}

-- a map, or the refusal's number and a map that is all zero
abbrev pub told : Result Map Refusal → Outcome
told (Ok m) = record { refusal = 0; map = m }
told (Err e) = record { refusal = number e; map = no_map }
