use Rattle.std.proofs.Common.{arith}
use Rattle.ieee.proofs.RootChecked.{rounded_at, rounded_next, rounded_second}
use Rattle.ieee.proofs.root.root_checked.Goals as goal
use Rattle.ieee.proofs.root.root_checked.Goals.{else-c-f-2, then-c-f-2}

-- `ieee::root::root_checked` meets its contract. Assumes nothing.
pub returns-then-c-f-3 : goal.returns-then-c-f-3
returns-then-c-f-3 c =
    let x = c.args.c in
    let f = c.excess-f.result in
    elim c.if-c-f-2.branch [ then-c-f-2 w ↦ rw w.r-is (rounded_second _ x f (c.excess-f.ensures (omega arith)) c.if-c-f-3.true c.if-c-f.false) | else-c-f-2 w ↦ absurd (omega arith) ]

pub returns-else-c-f-3 : goal.returns-else-c-f-3
returns-else-c-f-3 c =
    let x = c.args.c in
    let f = c.excess-f.result in
    elim c.if-c-f-2.branch [ then-c-f-2 w ↦ rw w.r-is (rounded_next _ x f (c.excess-f.ensures (omega arith)) w.if-c-f-2.true c.if-c-f-3.false) | else-c-f-2 w ↦ rw w.r-is (rounded_at _ x f (omega arith) (c.excess-f.ensures (omega arith)) w.if-c-f-2.false) ]
