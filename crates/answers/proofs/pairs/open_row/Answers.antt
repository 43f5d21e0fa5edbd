use Rattle.answers.proofs.RowLaws.{open_done, open_other, open_put, open_shut}
use Rattle.answers.proofs.pairs.open_row.Goals as goal
use Rattle.answers.proofs.pairs.open_row.Goals.{then-pairs-i-eq1+then-blockers-j-eq0, else-pairs-i-eq1, else-pairs-i-eq1-via-then-pairs-i-eq1+else-blockers-j-eq0, else-pairs-i-eq1-via-else-pairs-i-eq1}

pub loop-j-preserved : goal.loop-j-preserved
loop-j-preserved c =
    let l = c.loop-j in
    let a = c.args in
    let p = c.requires in
    elim c.if-pairs-i-eq1.branch [
      | then-pairs-i-eq1+then-blockers-j-eq0 w ↦ rw (w.lesser-is, w.greater-is, w.n-is) (open_put a.points.now a.blockers.now a.pairs.now a.i a.count c.requires.0 c.requires.4 a.lesser.now a.greater.now l.lesser l.greater l.n l.j l.invariant c.loop-j-test.true p.5 p.6 w.if-pairs-i-eq1.true w.if-blockers-j-eq0.true)
      | else-pairs-i-eq1 w ↦ rw (w.lesser-is, w.greater-is, w.n-is) (elim w.else-pairs-i-eq1.branch [
        | else-pairs-i-eq1-via-then-pairs-i-eq1+else-blockers-j-eq0 v ↦ open_shut a.points.now a.blockers.now a.pairs.now a.i a.count c.requires.0 c.requires.4 a.lesser.now a.greater.now l.lesser l.greater l.n l.j l.invariant c.loop-j-test.true v.if-blockers-j-eq0.false
        | else-pairs-i-eq1-via-else-pairs-i-eq1 v ↦ open_other a.points.now a.blockers.now a.pairs.now a.i a.count c.requires.0 c.requires.4 a.lesser.now a.greater.now l.lesser l.greater l.n l.j l.invariant c.loop-j-test.true v.if-pairs-i-eq1.false
      ])
    ]

pub returns : goal.returns
returns c =
    let l = c.loop-j in
    let a = c.args in
    open_done a.points.now a.blockers.now a.pairs.now a.i a.count c.requires.0 c.requires.4 a.lesser.now a.greater.now l.lesser l.greater l.n l.j l.invariant c.loop-j-test.false
