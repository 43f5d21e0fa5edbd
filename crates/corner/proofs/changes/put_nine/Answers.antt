use native.Mathlib.Omega.{arith}
use mathlib.Core.Path.{◌≡◌}
use Rattle.corner.specs.Window.{inner_cell, picked_at}
use Rattle.corner.proofs.AddedLaws.{gathering_none, gathering_pass, gathering_put, picked_none, picked_some}
use Rattle.corner.proofs.changes.put_nine.Goals as goal
use Rattle.corner.proofs.changes.put_nine.Goals.{else-fresh-c-eq1, then-fresh-c-eq1}

pub loop-d-init : goal.loop-d-init
loop-d-init c =
    let a = c.args in
    gathering_none (Unit {0}) 9 (picked_at a.low a.fresh a.w.sw a.w.se a.w.nw a.w.ne) a.out.now a.statuses.now a.n

pub loop-d-preserved : goal.loop-d-preserved
loop-d-preserved c =
    let a = c.args in
    let l = c.loop-d in
    let f = picked_at a.low a.fresh a.w.sw a.w.se a.w.nw a.w.ne in
    let room = c.requires in
    let more = c.loop-d-test.true in
    elim c.if-fresh-c-eq1.branch [
      | then-fresh-c-eq1 w ↦ rw (w.out-is, w.statuses-is, w.m-is)
          (gathering_put (Unit {0}) 9 f a.out.now a.statuses.now a.n l.out l.statuses l.m l.d more room.1 room.2 l.invariant (inner_cell a.low l.d) w.status_at.result (λ t. rw w.status_at.ensures (picked_some a.low a.fresh a.w.sw a.w.se a.w.nw a.w.ne l.d w.if-fresh-c-eq1.true)))
      | else-fresh-c-eq1 w ↦ rw (w.out-is, w.statuses-is, w.m-is)
          (gathering_pass (Unit {0}) 9 f a.out.now a.statuses.now a.n l.out l.statuses l.m l.d more room.1 room.2 l.invariant (λ t. picked_none a.low a.fresh a.w.sw a.w.se a.w.nw a.w.ne l.d w.if-fresh-c-eq1.false))
    ]

pub returns : goal.returns
returns c =
    let l = c.loop-d in
    let e : l.d ≡ 9 = omega arith in
    (omega (arith, l.invariant.up), rw e at (l.invariant.added tt))
