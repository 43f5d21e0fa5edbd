use Rattle.marks.proofs.GatherLaws.{put_none, put_pass, put_more}
use Rattle.marks.proofs.gather.put_corners.Goals as goal
use Rattle.marks.proofs.gather.put_corners.Goals.{else-get, then-get}

pub loop-corner-init : goal.loop-corner-init
loop-corner-init c = let a = c.args in put_none a.candidates.now a.n a.k a.status a.shift

pub loop-corner-preserved : goal.loop-corner-preserved
loop-corner-preserved c =
    let l = c.loop-corner in
    let a = c.args in
    let more = c.loop-corner-test.true in
    elim c.if-get.branch [
      | then-get w ↦ rw (w.candidates-is, w.used-is)
          (put_more a.candidates.now l.candidates a.n l.used l.corner-index a.k a.status a.shift more l.invariant c.get.result c.get.ensures w.if-get.true w.shifted.result w.shifted.ensures w.insert-used.new.t w.insert-used.result w.insert-used.auto.t w.insert-used.ensures)
      | else-get w ↦ rw (w.candidates-is, w.used-is) (put_pass a.candidates.now l.candidates a.n l.used l.corner-index a.k a.status a.shift more l.invariant c.get.result c.get.ensures w.if-get.false)
    ]
