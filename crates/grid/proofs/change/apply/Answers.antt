use mathlib.Core.Path.{◌≡◌, ap, ◌∙◌}
use lib.ListN.{take, drop, take-append-drop}
use mathlib.Core.List.{◌++◌}
use Rattle.limits.specs.Batches.{entries}
use Rattle.model.specs.Limits.{max_cells}
use Rattle.batches.proofs.CommitLaws.{Commits}
use Rattle.grid.proofs.ApplyLaws.{applied}
use Rattle.grid.proofs.change.apply.Goals as goal

-- `change::apply`: the confirmed changes, the corner changes, and then the cells. Assumes nothing.
pub returns-clause-done : goal.returns-clause-done
returns-clause-done c =
    let a = c.args in
    let o = c.args.outputs.now in
    let f = c.confirm-confirmed in
    let q = c.corner_changes-corners in
    let m = c.commit-after in
    let l = c.first_changes.ensures in
    let whole : take f.result f.new.out ++ drop f.result f.new.out ≡ f.new.out = take-append-drop f.result f.new.out in
    let commits : Commits (take max_cells a.cells.now) a.floor.cells (take f.result f.new.out) (take f.result f.new.full) m.new.cells m.result =
    λ b r s. m.ensures b (l.cells ∙ ap (take f.result) whole ∙ r) (l.full ∙ s) in
    λ C y.
    rw whole
    (applied a.floor (entries a.batch.now) a.cells.now o.confirmed.now f.new.out o.full.now f.new.full o.corners.now q.new.out o.altered.now q.new.statuses m.new.cells f.result q.result m.result C y
    c.requires.2 c.requires.3 f.ensures.0 q.ensures.0 commits)
