use Rattle.ieee.proofs.RootLoop.{skipped, taken}
use Rattle.ieee.proofs.root.root_bits.Goals as goal
use Rattle.ieee.proofs.root.root_bits.Goals.{else-r-rem, then-r-rem}

pub loop-preserved : goal.loop-preserved
loop-preserved c =
    let t = c.loop.invariant in
    let on = c.loop-test.true in
    elim c.if-r-rem.branch [ then-r-rem w ↦ rw (w.rem-is, w.r-is) (taken t on w.if-r-rem.true) | else-r-rem w ↦ rw (w.rem-is, w.r-is) (skipped t on w.if-r-rem.false) ]
