-- A count, or whether something is so, as the border has it: a struct with the refusal's number. Definitions only.
use Rattle.std.specs.Prelude.{ℕ, Bool, false, Result, Ok, Err}
use Rattle.limits.specs.declared.refusal.Refusal.{Refusal}
use Rattle.limits.specs.Refusals.{number}
use Rattle.answers.specs.declared.judge.Count.{Count}
use Rattle.answers.specs.declared.cells.Told.{Told}

-- how many there are, or the refusal's number and 0
abbrev pub counted : Result ℕ Refusal → Count
counted (Ok n) = record { refusal = 0; count = n }
counted (Err e) = record { refusal = number e; count = 0 }

-- yes or no, or the refusal's number and no
abbrev pub said : Result Bool Refusal → Told
said (Ok b) = record { refusal = 0; yes = b }
said (Err e) = record { refusal = number e; yes = false }
