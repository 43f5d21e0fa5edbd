use Rattle.question.proofs.WalkLaws.{column_beyond_lem, left_begins, row_beyond}
use Rattle.question.proofs.walk.begin.Goals as goal
use Rattle.question.proofs.walk.begin.Goals.{then-columns-ge-COLUMN-via-then-columns-ge-COLUMN, then-columns-ge-COLUMN-via-else-columns-ge-COLUMN+then-row-ge-COLUMN}

-- `walk::begin`: the cells before the row of the first column do not count, and no cell is beyond the columns and rows. Assumes nothing.
pub returns-then-columns-ge-COLUMN : goal.returns-then-columns-ge-COLUMN
returns-then-columns-ge-COLUMN c =
    let a = c.args in
    λ s low. elim c.then-columns-ge-COLUMN.branch [
      | then-columns-ge-COLUMN-via-then-columns-ge-COLUMN w ↦ column_beyond_lem a.columns s a.cells.now a.row low w.if-columns-ge-COLUMN.true (λ i. (c.type_inv.cells i).fits)
      | then-columns-ge-COLUMN-via-else-columns-ge-COLUMN+then-row-ge-COLUMN w ↦ row_beyond a.columns s a.cells.now a.row low w.if-row-ge-COLUMN.true
    ]

pub returns : goal.returns
returns c =
    let a = c.args in
    λ s low. left_begins a.columns s a.cells.now a.row low c.place.result c.if-row-ge-COLUMN.false c.place.ensures.1
