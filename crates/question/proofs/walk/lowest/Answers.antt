use native.Mathlib.Omega.{arith}
use mathlib.Core.Path.{sym, ap, ◌∙◌}
use Rattle.question.specs.Walk.{flat, keyed, row_taken}
use Rattle.question.proofs.WalkLaws.{find_past, row_first}
use Rattle.question.proofs.walk.lowest.Goals as goal

-- `walk::lowest`: nothing behind the first of a column's cells has a lower row. Assumes nothing.
pub returns-in-empty : goal.returns-in-empty
returns-in-empty c =
    let s = c.args in
    λ x b a o. c.nothing.ensures ∙ ap keyed (sym (find_past (row_taken s.high (flat b)) s.rows.now 0 (omega arith)))

pub returns-in-len1-up : goal.returns-in-len1-up
returns-in-len1-up c =
    let s = c.args in
    λ x b a o. c.only.ensures ∙ ap keyed (row_first s.high b s.rows.now (omega arith) x a o)
