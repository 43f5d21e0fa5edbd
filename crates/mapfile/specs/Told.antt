-- Between functions: the answer to a map file as the border has it, a struct with the refusal's number. Definitions only.
use Rattle.std.specs.Prelude.{Result, Ok, Err}
use Rattle.limits.specs.Refusals.{number}
use Rattle.held.specs.declared.map.Map.{Map}
use Rattle.mapfile.specs.Files.{refused_at}
use Rattle.mapfile.specs.declared.file.Opened.{Opened}
use Rattle.mapfile.specs.declared.state.FileRefusal.{FileRefusal}

-- a map; or the refusal's number, the field's, and a map that is all zero
abbrev pub opened_told : Result Map FileRefusal → Opened
opened_told (Ok m) = record { refusal = 0; field = 0; map = m }
opened_told (Err x) = refused_at (number x.refusal) x.field
