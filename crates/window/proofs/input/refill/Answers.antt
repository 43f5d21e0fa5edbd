-- `input::refill`: the window was moved and filled (Whole.antt).
use Rattle.std.proofs.Common.{arith}
use Rattle.window.proofs.Whole.{filled, moved}
use Rattle.window.proofs.input.refill.Goals as goal

pub returns : goal.returns
returns g c =
    filled _ _ _ _ _ (omega arith) c.if-window.false (omega arith) (omega arith) (moved _ _ _ _ (omega arith) (omega arith) c.copy_within.ensures.after) c.fill.ensures
