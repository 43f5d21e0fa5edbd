use Rattle.std.proofs.Common.{get_or}
use Rattle.marks.specs.Standing.{begun}
use Rattle.marks.proofs.BeginLaws.{begun_more, begun_done}
use Rattle.marks.proofs.run.begin.Goals as goal

pub loop-i-preserved : goal.loop-i-preserved
loop-i-preserved c =
    let l = c.loop-i in
    let a = c.args in
    begun_more a.points.cells.now a.points.statuses.now a.candidates.now a.moods.now l.moods l.i l.invariant c.loop-i-test.true c.word.result
    (λ ps e v o. c.word.ensures (begun ps (get_or a.candidates.now l.i 0)) (c.begin_at.ensures.3 ps e v o))

pub returns : goal.returns
returns c =
    let l = c.loop-i in
    let a = c.args in
    begun_done a.points.cells.now a.points.statuses.now a.candidates.now a.moods.now l.moods l.i l.invariant c.loop-i-test.false
