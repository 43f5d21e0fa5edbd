use Rattle.std.proofs.Common.{refl}
use Rattle.marks.proofs.RunLaws.{four_none, four_more, four_done}
use Rattle.marks.proofs.run.mark_corners.Goals as goal

pub loop-d-init : goal.loop-d-init
loop-d-init c =
    let a = c.args in
    four_none a.candidates.now a.moods.now a.k a.status a.shift a.n

pub loop-d-preserved : goal.loop-d-preserved
loop-d-preserved c =
    let r = c.mark in
    let l = c.loop-d in
    let a = c.args in
    four_more a.candidates.now a.moods.now l.moods a.k a.status a.shift a.n l.d l.invariant c.loop-d-test.true c.requires.2 _ refl c.shifted-point.result c.shifted-point.ensures c.get.result c.get.ensures r.new.moods r.auto.moods r.ensures.1

pub returns : goal.returns
returns c =
    let l = c.loop-d in
    let a = c.args in
    (l.invariant.long, four_done a.candidates.now a.moods.now l.moods a.k a.status a.shift a.n l.d l.invariant c.loop-d-test.false)
