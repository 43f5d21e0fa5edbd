use native.Mathlib.Omega.{arith}
use mathlib.Core.Path.{◌≡◌, sym, ◌∙◌}
use Rattle.table.proofs.SearchLaws.{power_is}
use Rattle.corner.proofs.RowLaws.{row_none, row_hit, row_miss}
use Rattle.corner.proofs.window.five.Goals as goal
use Rattle.corner.proofs.window.five.Goals.{else-stands_at, then-stands_at}

pub loop-j-init : goal.loop-j-init
loop-j-init c =
    let a = c.args in
    row_none a.t.now a.base a.place c.requires.0

pub loop-j-preserved : goal.loop-j-preserved
loop-j-preserved c =
    let a = c.args in
    let l = c.loop-j in
    let s = c.stands_at in
    let more = c.loop-j-test.true in
    elim c.if-stands_at.branch [ then-stands_at w ↦ rw (w.at-is, w.bits-is) (row_hit a.t.now a.base l.at l.bits l.j more l.invariant _ (power_is l.j (omega arith)) (sym s.ensures ∙ w.if-stands_at.true)) | else-stands_at w ↦ rw (w.at-is, w.bits-is) (row_miss a.t.now a.base l.at l.bits l.j more l.invariant (sym s.ensures ∙ w.if-stands_at.false)) ]

pub returns : goal.returns
returns c =
    let l = c.loop-j in
    let e : l.j ≡ 5 = omega (arith, l.invariant.few) in
    (rw e at l.invariant.small, λ a j h. l.invariant.seen a j (omega arith))
