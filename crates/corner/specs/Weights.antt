-- Between functions: a corner of the code, and its number. Definitions only.
use Rattle.std.specs.Prelude.{ℕ}
use Rattle.model.specs.Cell.{Dir, SW, SE, NW, NE}
use Rattle.corner.specs.declared.bits.Corner.{Corner}
use Rattle.corner.specs.declared.bits.Corner.TheVariants.{Southwest, Southeast, Northwest, Northeast}

-- a corner of the code as the model's direction
abbrev pub dir : Corner → Dir
dir Southwest = SW
dir Southeast = SE
dir Northwest = NW
dir Northeast = NE

-- the paper's number of a direction
abbrev pub weight : Dir → ℕ
weight SW = 1
weight SE = 2
weight NW = 4
weight NE = 8
