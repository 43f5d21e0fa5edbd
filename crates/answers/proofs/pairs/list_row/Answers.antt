use Rattle.answers.proofs.RowLaws.{row_blocked, row_clear, row_done, row_pass}
use Rattle.answers.proofs.pairs.list_row.Goals as goal
use Rattle.answers.proofs.pairs.list_row.Goals.{then-code-ne0, then-code-eq1, else-code-eq1, else-code-ne0}

pub loop-j-preserved : goal.loop-j-preserved
loop-j-preserved c =
    let l = c.loop-j in
    let a = c.args in
    let p = c.requires in
    elim c.if-code-ne0.branch [
      | then-code-ne0 w ↦ elim w.if-code-eq1.branch [
        | then-code-eq1 v ↦ rw (w.lesser-is, w.greater-is, w.blocks-is, w.n-is, v.blocks-is) (row_clear a.points.now a.pairs.now a.i a.count c.requires.0 a.lesser.now a.greater.now a.blocks.now l.lesser l.greater l.blocks l.n l.j l.invariant c.loop-j-test.true w.if-code-ne0.true p.3 p.4 p.5 v.if-code-eq1.true)
        | else-code-eq1 v ↦ rw (w.lesser-is, w.greater-is, w.blocks-is, w.n-is, v.blocks-is) (row_blocked a.points.now a.pairs.now a.i a.count c.requires.0 a.lesser.now a.greater.now a.blocks.now l.lesser l.greater l.blocks l.n l.j l.invariant c.loop-j-test.true w.if-code-ne0.true p.3 p.4 p.5 v.if-code-eq1.false)
      ]
      | else-code-ne0 w ↦ rw (w.lesser-is, w.greater-is, w.blocks-is, w.n-is) (row_pass a.points.now a.pairs.now a.i a.count c.requires.0 a.lesser.now a.greater.now a.blocks.now l.lesser l.greater l.blocks l.n l.j l.invariant c.loop-j-test.true w.if-code-ne0.false)
    ]

pub returns : goal.returns
returns c =
    let l = c.loop-j in
    let a = c.args in
    row_done a.points.now a.pairs.now a.i a.count c.requires.0 a.lesser.now a.greater.now a.blocks.now l.lesser l.greater l.blocks l.n l.j l.invariant c.loop-j-test.false
