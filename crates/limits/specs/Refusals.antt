-- The refusals by name, and the numbers by which the border and the model have them (RULES 4.1). Definitions only.
use Rattle.std.specs.Prelude.{ℕ, Result, Ok, Err}
use Rattle.limits.specs.declared.refusal.Refusal.{Refusal}
use Rattle.limits.specs.declared.refusal.Refusal.TheVariants.{CellSize, Radius, LongBatch, Disorder, OffMap, ManyCells, ManyPoints, BadQuestion, ShortTable, BadFile}

abbrev pub number : Refusal → ℕ
number CellSize = 1
number Radius = 2
number LongBatch = 3
number Disorder = 4
number OffMap = 5
number ManyCells = 6
number ManyPoints = 7
number BadQuestion = 8
number ShortTable = 9
number BadFile = 10

-- the number that a call is answered with, 0 where it is not refused
abbrev pub code : {A : Type 0} → Result A Refusal → ℕ
code (Ok a) = 0
code (Err e) = number e
