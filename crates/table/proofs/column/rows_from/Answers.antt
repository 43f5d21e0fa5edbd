use Prim.Native.Nat.{ℕ, ◌+◌, ◌*◌}
use native.Mathlib.Omega.{arith}
use mathlib.Core.Path.{◌≡◌, ap, ◌∙◌}
use lib.ListN.{get_or}
use Rattle.table.proofs.Parts.{tail_is}
use Rattle.model.specs.Cell.{W, col}
use Rattle.table.specs.Tables.{rank}
use Rattle.table.proofs.AllLaws.{all_at}
use Rattle.table.proofs.ColumnLaws.{rows_are, rows_empty, rows_none}
use Rattle.table.proofs.column.rows_from.Goals as goal
use Rattle.table.proofs.column.rows_from.Goals.{then-col-eq0-via-else-col-eq0+then-y-ge-COLUMN, then-col-eq0-via-then-col-eq0}

-- `column::rows_from`: one search, for the first key of the row. Assumes nothing.
pub returns-then-col-eq0 : goal.returns-then-col-eq0
returns-then-col-eq0 c =
    let s = c.args in
    λ x a i. elim c.then-col-eq0.branch [ then-col-eq0-via-then-col-eq0 w ↦ rows_empty s.y s.col.now w.if-col-eq0.true | then-col-eq0-via-else-col-eq0+then-y-ge-COLUMN w ↦ rows_none s.y s.col.now w.if-y-ge-COLUMN.true ]

pub overflow_mul-col : goal.overflow_mul-col
overflow_mul-col c = omega (arith, c.type_inv.col 0)

pub overflow_add-col : goal.overflow_add-col
overflow_add-col c = omega (arith, c.type_inv.col 0, c.if-y-ge-COLUMN.false)

pub returns : goal.returns
returns c =
    let s = c.args in
    let l = s.col.now in
    λ x a i.
    let first : col (get_or l 0 0) ≡ x = all_at (λ k. col k ≡ x) l 0 i (omega arith) in
    let at : c.place-at.result ≡ rank (x * W + s.y) l = c.place-at.ensures.1 a ∙ ap (λ (z : ℕ). rank (z * W + s.y) l) first in
    tail_is c.place-at.result l ∙ rows_are x s.y c.place-at.result l a i at
