use Rattle.shape.specs.Circle.{circle_of}
use Rattle.model.specs.Plane.{root2}
use lib.Ieee.{of_bits}
use mathlib.Core.Path.{refl}
use Rattle.shape.proofs.circle.Circle.new.Goals as goal

-- `Circle::new` works out the squares. Assumes nothing.
pub returns : goal.returns
unfolding circle_of root2 of_bits
returns c = refl
