use lib.ListN.{length}
use Rattle.answers.proofs.PairLaws.{all_done, all_first, all_row, counting_room}
use Rattle.answers.proofs.pairs.list_all.Goals as goal

pub loop-i-init : goal.loop-i-init
loop-i-init c = let a = c.args in all_first a.points.now a.pairs.now a.lesser.now a.greater.now a.blocks.now c.requires.0

pub list_row-n-requires : goal.list_row-n-requires
list_row-n-requires c =
    let l = c.loop-i in
    let a = c.args in
    let p = c.requires in
    let room = counting_room (length a.points.now) l.n l.i c.loop-i-test.true l.invariant.at in (
      c.loop-i-test.true,
      p.0,
      p.1,
      rw l.invariant.ends.lesser.same (room (length a.lesser.now) p.2),
      rw l.invariant.ends.greater.same (room (length a.greater.now) p.3),
      rw l.invariant.blocks.same (room (length a.blocks.now) p.4),
    )

pub loop-i-preserved : goal.loop-i-preserved
loop-i-preserved c =
    let l = c.loop-i in
    let a = c.args in
    let k = c.list_row-n.auto in
    all_row a.points.now a.pairs.now a.lesser.now a.greater.now a.blocks.now l.lesser l.greater l.blocks l.n l.i l.invariant c.loop-i-test.true c.list_row-n.result _ _ _ k.lesser k.greater k.blocks c.list_row-n.ensures

pub returns : goal.returns
returns c =
    let l = c.loop-i in
    let a = c.args in
    all_done a.points.now a.pairs.now a.lesser.now a.greater.now a.blocks.now l.lesser l.greater l.blocks l.n l.i l.invariant c.loop-i-test.false
