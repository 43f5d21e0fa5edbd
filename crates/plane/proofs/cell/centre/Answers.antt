use Rattle.ieee.specs.Yard.{centre_f}
use Rattle.model.specs.Plane.{centre}
use lib.Ieee.{of_bits}
use mathlib.Core.Path.{refl}
use Rattle.plane.proofs.cell.centre.Goals as goal

-- `cell::centre` is the model's centre. Assumes nothing.
pub returns : goal.returns
unfolding centre centre_f of_bits
returns c = rw (c.column.ensures, c.column-2.ensures) refl
