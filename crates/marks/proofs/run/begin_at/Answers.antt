use Rattle.std.proofs.Common.{sym, refl, ◌∙◌, arith}
use Rattle.table.proofs.LookLaws.{stands_inside}
use Rattle.marks.proofs.BeginLaws.{begun_there, begun_absent}
use Rattle.marks.proofs.run.begin_at.Goals as goal

pub returns-then-stands_at : goal.returns-then-stands_at
returns-then-stands_at c =
    let a = c.args in
    let stood = sym c.stands_at.ensures ∙ c.if-stands_at.true in
    let i = stands_inside a.k c.place-at.result a.points.cells.now stood in (
      omega arith,
      omega (arith, i),
      refl,
      λ ps e v o. begun_there a.points.cells.now a.points.statuses.now ps e v o a.k c.place-at.result c.place-at.ensures.1 stood,
    )

pub returns : goal.returns
returns c =
    let a = c.args in (
      omega arith,
      omega arith,
      refl,
      λ ps e v o. begun_absent a.points.cells.now a.points.statuses.now ps e v o a.k c.place-at.result c.place-at.ensures.1 (sym c.stands_at.ensures ∙ c.if-stands_at.false),
    )
