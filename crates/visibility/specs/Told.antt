-- Between functions: the answer to a batch as the border has it, a struct with the refusal's number. Definitions only.
use Rattle.std.specs.Prelude.{Result, Ok, Err, ltb}
use Rattle.limits.specs.declared.refusal.Refusal.{Refusal}
use Rattle.limits.specs.Refusals.{number}
use Rattle.visibility.specs.Change.{refused_with}
use Rattle.visibility.specs.declared.change.Change.{Change}
use Rattle.visibility.specs.declared.change.Changed.{Changed}

-- what was changed; or the refusal's number, and all else zero
abbrev pub changed_told : Result Change Refusal → Changed
changed_told (Ok c) = record { refusal = 0; yes = ltb 0 c.confirmed; confirmed = c.confirmed; corners = c.corners; map = c.map }
changed_told (Err e) = refused_with (number e)
