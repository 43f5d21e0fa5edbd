use Rattle.marks.proofs.RunLaws.{made_none, made_more, made_done}
use Rattle.marks.proofs.run.mark_all.Goals as goal

pub loop-i-init : goal.loop-i-init
loop-i-init c =
    let a = c.args in
    made_none a.candidates.now a.moods.now a.corners.cells.now a.corners.statuses.now a.shift

pub loop-i-preserved : goal.loop-i-preserved
loop-i-preserved c =
    let r = c.mark_corners in
    let l = c.loop-i in
    let a = c.args in
    made_more a.candidates.now a.moods.now l.moods a.corners.cells.now a.corners.statuses.now a.shift l.i l.invariant c.loop-i-test.true c.requires.3 r.new.moods r.auto.moods r.ensures.1

pub returns : goal.returns
returns c =
    let l = c.loop-i in
    let a = c.args in
    (l.invariant.long, made_done a.candidates.now a.moods.now l.moods a.corners.cells.now a.corners.statuses.now a.shift l.i l.invariant c.loop-i-test.false)
