use lib.ListN.{length}
use Rattle.answers.proofs.PairLaws.{counting_room, open_end, open_more, open_skip, open_start}
use Rattle.answers.proofs.pairs.list_open.Goals as goal
use Rattle.answers.proofs.pairs.list_open.Goals.{else-blockers-i-eq0, then-blockers-i-eq0}

pub loop-i-init : goal.loop-i-init
loop-i-init c = let a = c.args in open_start a.points.now a.blockers.now a.pairs.now a.lesser.now a.greater.now c.requires.0

pub open_row-n-requires : goal.open_row-n-requires
open_row-n-requires c =
    let l = c.loop-i in
    let a = c.args in
    let p = c.requires in
    let room = counting_room (length a.points.now) l.n l.i c.loop-i-test.true l.invariant.at in (
      c.loop-i-test.true,
      p.0,
      p.2,
      p.1,
      c.if-blockers-i-eq0.true,
      rw l.invariant.ends.lesser.same (room (length a.lesser.now) p.3),
      rw l.invariant.ends.greater.same (room (length a.greater.now) p.4),
    )

pub loop-i-preserved : goal.loop-i-preserved
loop-i-preserved c =
    let l = c.loop-i in
    let a = c.args in
    elim c.if-blockers-i-eq0.branch [
      | then-blockers-i-eq0 w ↦
          let r = w.open_row-n in
          rw (w.lesser-is, w.greater-is, w.n-is) (open_more a.points.now a.blockers.now a.pairs.now a.lesser.now a.greater.now l.lesser l.greater l.n l.i l.invariant c.loop-i-test.true r.result _ _ r.auto.lesser r.auto.greater r.ensures)
      | else-blockers-i-eq0 w ↦ rw (w.lesser-is, w.greater-is, w.n-is) (open_skip a.points.now a.blockers.now a.pairs.now a.lesser.now a.greater.now l.lesser l.greater l.n l.i l.invariant c.loop-i-test.true w.if-blockers-i-eq0.false)
    ]

pub returns : goal.returns
returns c =
    let l = c.loop-i in
    let a = c.args in
    open_end a.points.now a.blockers.now a.pairs.now a.lesser.now a.greater.now l.lesser l.greater l.n l.i l.invariant c.loop-i-test.false
