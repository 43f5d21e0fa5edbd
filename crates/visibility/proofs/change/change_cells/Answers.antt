use Rattle.std.proofs.Common.{arith}
use Rattle.held.specs.Lent.{viewed}
use Rattle.visibility.specs.Lent.{lent_lists}
use Rattle.visibility.proofs.ChangeLaws.{call_crowded, call_few, call_refused, call_room, call_updated, call_used}
use Rattle.visibility.proofs.UpdateLaws.{small_room}
use Rattle.visibility.proofs.change.change_cells.Goals as goal

-- `change::change_cells`: what the input alone refuses, then the cells' number, then the points', then the batch. Assumes nothing.
pub returns-in_err-judge-clause-said : goal.returns-in_err-judge-clause-said
returns-in_err-judge-clause-said c =
    let a = c.args in
    call_refused a.map a.batch.now (lent_lists a.tables.now a.outputs.now) c.short_of.result c.short_of.ensures _ c.in_err-judge.field-0.0 c.from_residual.ensures.1 c.in_err-judge.ensures

pub slice_bounds-count_after-end : goal.slice_bounds-count_after-end
slice_bounds-count_after-end c =
    let a = c.args in
    call_used a.map a.batch.now (lent_lists a.tables.now a.outputs.now) c.short_of.result c.short_of.ensures c.in_ok-judge.ensures (viewed c.view.result) c.view.ensures

pub returns-in_err-judge_room-clause-said : goal.returns-in_err-judge_room-clause-said
returns-in_err-judge_room-clause-said c =
    let a = c.args in
    call_crowded a.map a.batch.now (lent_lists a.tables.now a.outputs.now) c.short_of.result c.short_of.ensures c.in_ok-judge.ensures (viewed c.view.result) c.view.ensures c.count_after.result c.count_after.ensures
    _ c.in_err-judge_room.field-0.0 c.from_residual-in_err-judge_room.ensures.1 c.in_err-judge_room.ensures

pub update-requires : goal.update-requires
update-requires c =
    let a = c.args in
    call_room a.map a.batch.now (lent_lists a.tables.now a.outputs.now) c.short_of.result c.short_of.ensures c.in_ok-judge.ensures c.count_after.result 144 (small_room a.batch.now c.if-batch-le-FEW_NUMBERS.true) (omega arith) c.in_ok-judge_room.ensures

pub returns-then-batch-le-FEW_NUMBERS-clause-said : goal.returns-then-batch-le-FEW_NUMBERS-clause-said
returns-then-batch-le-FEW_NUMBERS-clause-said c =
    let a = c.args in
    call_updated a.map a.batch.now (lent_lists a.tables.now a.outputs.now) c.short_of.result c.short_of.ensures c.in_ok-judge.ensures (viewed c.view.result) c.view.ensures c.count_after.result c.count_after.ensures
    (lent_lists c.update.new.tables c.update.new.outputs) _ c.in_ok-judge_room.ensures c.update.ensures.updated

pub update-requires-2 : goal.update-requires-2
update-requires-2 c =
    let a = c.args in
    call_room a.map a.batch.now (lent_lists a.tables.now a.outputs.now) c.short_of.result c.short_of.ensures c.in_ok-judge.ensures c.count_after.result 2304
    (call_few a.map a.batch.now (lent_lists a.tables.now a.outputs.now) c.short_of.result c.short_of.ensures c.in_ok-judge.ensures) (omega arith) c.in_ok-judge_room.ensures

pub returns-clause-said : goal.returns-clause-said
returns-clause-said c =
    let a = c.args in
    call_updated a.map a.batch.now (lent_lists a.tables.now a.outputs.now) c.short_of.result c.short_of.ensures c.in_ok-judge.ensures (viewed c.view.result) c.view.ensures c.count_after.result c.count_after.ensures
    (lent_lists c.update-2.new.tables c.update-2.new.outputs) _ c.in_ok-judge_room.ensures c.update-2.ensures.updated
