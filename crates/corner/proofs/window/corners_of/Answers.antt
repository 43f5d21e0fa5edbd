use mathlib.Core.Path.{refl}
use Rattle.corner.specs.Window.{southwests, southeasts, northwests, northeasts}
use Rattle.corner.proofs.window.corners_of.Goals as goal

-- `window::corners_of` is the definitions' steps. Assumes nothing.
pub returns : goal.returns
unfolding southwests southeasts northwests northeasts
returns c = (refl, refl, refl, refl)
