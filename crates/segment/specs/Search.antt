-- Between functions: `SearchF64` as the model's option, and back. Definitions only.
use Rattle.std.specs.Prelude.{Some, None, Float}
use Rattle.std.proofs.Math.Option.{Option, none, some}
use Rattle.segment.specs.declared.search.SearchF64.{SearchF64}

abbrev pub held : SearchF64 → Option Float
held s = elim s.value [ None ↦ none | Some v ↦ some v ]

abbrev pub kept : Option Float → SearchF64
kept none = record { value = None }
kept (some v) = record { value = Some v }
