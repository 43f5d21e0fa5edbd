-- Between functions: which cells the loops of crate `views` keep: `steps` is the model's `neighbours` where the square is free, `marked` its `from_point` and `seen` its `from_elsewhere` (occupancy/mod.rs, `neighbors`, `calculate_visibility`). Definitions only.
use Rattle.std.specs.Prelude.{ℕ, ◌+◌, ◌*◌, ◌≤◌, ◌<◌, ◌&&◌, List, eqb, get_or, Float}
use Rattle.answers.specs.Walks.{picked}
use Rattle.model.specs.Answers.{free}
use Rattle.model.specs.Cell.{W, eight}
use Rattle.model.specs.Corner.{sees}
use Rattle.model.specs.Layer.{Points}
use Rattle.model.specs.Map.{tests}
use Rattle.model.specs.Maps.{keys, sift}

-- the eight cells around k have keys
abbrev pub Surrounded : ℕ → Type 0
Surrounded k = (W + 1 ≤ k) × (k + (W + 1) < W * W)

-- the cells around k to which the sweep is free
abbrev pub steps : Float → Float → List ℕ → ℕ → List ℕ
steps c r C k = sift (λ q. free ((tests c r).sweep C k q).cell) (eight k)

-- the entries whose number is 1
abbrev pub marked : List ℕ → List ℕ → List ℕ
marked l row = picked (λ i. eqb (get_or row i 0) 1) l

-- the points that nothing blocks, in whose visible quadrant k lies, with a free sweep from it
abbrev pub seen : Float → Float → List ℕ → ℕ → Points → List ℕ
seen c r C k ps = keys (sift (λ q. free q.1.block && (sees k q.0 q.1.bits && free ((tests c r).sweep C k q.0).cell)) ps)
