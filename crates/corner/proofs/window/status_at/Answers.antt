use Rattle.corner.specs.Window.{status_at}
use Rattle.corner.proofs.WordLaws.{digit_read}
use Rattle.corner.proofs.window.status_at.Goals as goal

-- `window::status_at`: each bit is read by a shift. Assumes nothing.
pub returns : goal.returns
unfolding status_at
returns c =
    let a = c.args in
    let k = a.c in
    rw (digit_read a.w.sw k, digit_read a.w.se k, digit_read a.w.nw k, digit_read a.w.ne k)
