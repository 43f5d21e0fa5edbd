-- Two places and a count, where the Rust has an `ArrayVec<f64, 2>`. Definitions only.
use Rattle.std.specs.Prelude.{cond, List, [], ◌∷◌, ◌==◌, Float}
use Rattle.ieee.specs.Constants.{nought}
use Rattle.segment.specs.declared.line.Crossings.{Crossings}

-- of a list of at most two: a place that is not used is 0.0
abbrev pub places : List Float → Crossings
places [] = record { count = 0; first = nought; second = nought }
places (a ∷ []) = record { count = 1; first = a; second = nought }
places (a ∷ b ∷ l) = record { count = 2; first = a; second = b }

abbrev pub values : Crossings → List Float
values v = cond (v.count == 0) [] (cond (v.count == 1) (v.first ∷ []) (v.first ∷ v.second ∷ []))
