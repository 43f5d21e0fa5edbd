use native.Mathlib.Omega.{arith}
use Rattle.table.proofs.FiveLaws.{five_none, five_more}
use Rattle.table.proofs.places.begin_all.Goals as goal

pub loop-i-init : goal.loop-i-init
loop-i-init c = five_none _ c.args.f.now c.told-f

pub loop-i-preserved : goal.loop-i-preserved
loop-i-preserved c = let l = c.loop-i in five_more _ c.args.f.now l.f l.i c.begin.result c.loop-i-test.true l.invariant (grind arith)
