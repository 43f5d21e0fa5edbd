use Prim.Native.Nat.{◌-◌}
use native.Mathlib.Omega.{arith}
use Rattle.corner.proofs.WindowLaws.{sees_none, columns_none, columns_next}
use Rattle.corner.proofs.window.window.Goals as goal

pub returns-then-t-eq0 : goal.returns-then-t-eq0
returns-then-t-eq0 c =
    let a = c.args in
    (omega arith, λ h. sees_none a.t.now a.low c.if-t-eq0.true)

pub loop-i-init : goal.loop-i-init
loop-i-init c = columns_none c.args.t.now c.args.low

pub loop-i-preserved : goal.loop-i-preserved
loop-i-preserved c =
    let l = c.loop-i in
    columns_next c.args.t.now c.args.low l.bits l.i l.invariant (l.i - 1) c.five.result (omega arith) c.five.ensures.0 c.five.ensures.1
