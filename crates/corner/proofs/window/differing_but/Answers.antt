use mathlib.Core.Path.{refl}
use Rattle.corner.specs.Window.{differing}
use Rattle.corner.proofs.window.differing_but.Goals as goal

-- `window::differing_but` is the definition's steps. Assumes nothing.
pub returns : goal.returns
unfolding differing
returns c = refl
