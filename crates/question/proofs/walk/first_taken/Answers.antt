use native.Mathlib.Omega.{arith}
use Rattle.question.proofs.WalkLaws.{Stepped, left_cell, left_end, left_past, left_step}
use Rattle.question.proofs.walk.first_taken.Goals as goal

pub loop-i-init : goal.loop-i-init
loop-i-init g c = c.begin-i.ensures (g.S.Taking.shape c.args.shape) c.low.ensures

pub returns-then-columns-x : goal.returns-then-columns-x
returns-then-columns-x g c =
    let s = c.args in
    left_past s.columns (g.S.Taking.shape s.shape) s.cells.now c.loop-i.i c.loop-i.invariant c.nothing.result c.nothing.ensures (omega arith) c.if-columns-x.true

pub returns-then-takes : goal.returns-then-takes
returns-then-takes g c =
    let s = c.args in
    left_cell s.columns (g.S.Taking.shape s.shape) s.cells.now c.loop-i.i c.loop-i.invariant c.loop-i-test.true c.if-columns-x.false (c.takes.ensures c.if-takes.true)

pub returns-then-here : goal.returns-then-here
returns-then-here g c =
    let s = c.args in
    let found : Stepped s.columns (g.S.Taking.shape s.shape) s.cells.now c.column-col.result.now c.loop-i.i c.first_in-here.result =
    left_step s.columns (g.S.Taking.shape s.shape) s.cells.now c.loop-i.i c.loop-i.invariant c.loop-i-test.true c.if-columns-x.false c.column-col.result.now c.column-col.ensures c.first_in-here.result c.first_in-here.ensures in
    found.here c.if-here.true

pub loop-i-preserved : goal.loop-i-preserved
loop-i-preserved g c =
    let s = c.args in
    let found : Stepped s.columns (g.S.Taking.shape s.shape) s.cells.now c.column-col.result.now c.loop-i.i c.first_in-here.result =
    left_step s.columns (g.S.Taking.shape s.shape) s.cells.now c.loop-i.i c.loop-i.invariant c.loop-i-test.true c.if-columns-x.false c.column-col.result.now c.column-col.ensures c.first_in-here.result c.first_in-here.ensures in
    found.next c.if-here.false c.after-i.result c.after-i.ensures.1

pub returns : goal.returns
returns g c =
    let s = c.args in
    left_end s.columns (g.S.Taking.shape s.shape) s.cells.now c.loop-i.i c.loop-i.invariant c.nothing-2.result c.nothing-2.ensures c.loop-i-test.false
