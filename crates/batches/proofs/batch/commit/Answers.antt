use native.Mathlib.Omega.{arith}
use mathlib.Core.Path.{◌∙◌}
use Rattle.batches.proofs.WriteLaws.{commit_is, listed_lengths}
use Rattle.batches.proofs.batch.commit.Goals as goal

-- `batch::commit`: what is to be free is taken out, and then what is to be occupied put in. Assumes nothing.
pub returns-then-changes : goal.returns-then-changes
returns-then-changes c =
    let a = c.args.changes in
    λ b p q o T h. absurd (omega (arith, c.if-changes.true, listed_lengths a.cells.now a.full.now b p q))

pub returns : goal.returns
returns c =
    let o = c.write-used in
    let i = c.write in
    let a = c.args in
    commit_is a.changes.cells.now a.changes.full.now a.cells.now a.n o.new.cells o.result i.new.cells i.result o.ensures i.ensures o.auto.cells (i.auto.cells ∙ o.auto.cells)
