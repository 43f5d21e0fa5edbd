use Rattle.held.specs.Lent.{lists_of, viewed}
use Rattle.limits.specs.Batches.{entries}
use Rattle.visibility.specs.Lent.{lent_lists}
use Rattle.visibility.proofs.RefuseLaws.{named_refusal}
use Rattle.visibility.proofs.UpdateLaws.{far, overfull, update_finished, update_refused, worked_out}
use Rattle.visibility.proofs.change.update.Goals as goal

-- `change::update`: the batch worked out, and then the rest or a refusal. Assumes nothing.
pub returns-in_err-n-clause-updated : goal.returns-in_err-n-clause-updated
returns-in_err-n-clause-updated g c =
    let a = c.args in
    let l = entries a.batch.now in
    let x = c.in_err-n.ensures in
    update_refused a.map l (lent_lists a.tables.now a.outputs.now)
    (overfull a.map (lists_of a.tables.now) (viewed c.view-view.result) c.view-view.ensures l c.mark.new.present c.mark.new.moods c.list_changes-counts.ensures.2 c.shift_of-shift.ensures (rw x.ok_part at c.mark.ensures.marked))
    _ c.in_err-n.field-0.0 c.from_residual.ensures.1 (named_refusal c.mark.result _ c.in_err-n.field-0.0 x.ok_part x.value)

pub returns-clause-updated : goal.returns-clause-updated
returns-clause-updated g c =
    let a = c.args in
    let l = entries a.batch.now in
    let w = c.requires in
    let t = lists_of a.tables.now in
    update_finished a.map l (lent_lists a.tables.now a.outputs.now)
    (worked_out a.map t (viewed c.view-view.result) c.view-view.ensures l c.mark.new.present c.mark.new.moods c.list_changes-counts.ensures.2 c.shift_of-shift.ensures c.in_ok-n.n (rw c.in_ok-n.ensures.ok_part at c.mark.ensures.marked))
    (far a.map t l c.shift_of-shift.ensures c.reach_of.ensures)
    (lent_lists c.finish.new.tables c.finish.new.outputs) _ w.8 w.9 w.10 w.11 c.finish.ensures.finished
