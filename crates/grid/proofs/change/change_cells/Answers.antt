use native.Mathlib.Omega.{arith}
use mathlib.Core.Path.{refl, sym}
use lib.Seq.{length-take-le}
use Rattle.grid.specs.Change.{lists_of}
use Rattle.grid.proofs.CallLaws.{Room, accepted, early_refused, judged_input, late_refused, room}
use Rattle.grid.proofs.change.change_cells.Goals as goal

-- `change::change_cells`: what the input alone refuses, then the cells' number, then the batch. Assumes nothing.
pub returns-in_err-judge-clause-changing : goal.returns-in_err-judge-clause-changing
returns-in_err-judge-clause-changing c =
    let a = c.args in
    let t = lists_of a.cells.now a.outputs.now in
    early_refused a.floor a.batch.now t t c.from_residual.result c.in_err-judge.field-0.0 c.from_residual.ensures.1 (judged_input a.floor a.batch.now t c.is_short.ensures c.in_err-judge.ensures) refl

pub slice_bounds-count_after-end : goal.slice_bounds-count_after-end
slice_bounds-count_after-end c =
    let a = c.args in
    let t = lists_of a.cells.now a.outputs.now in
    let r : Room a.floor a.batch.now t = room a.floor a.batch.now t (judged_input a.floor a.batch.now t c.is_short.ensures c.in_ok-judge.ensures) in
    omega (arith, r.small, r.cells)

pub slice_bounds-count_after-end-2 : goal.slice_bounds-count_after-end-2
slice_bounds-count_after-end-2 c =
    let a = c.args in
    let t = lists_of a.cells.now a.outputs.now in
    let r : Room a.floor a.batch.now t = room a.floor a.batch.now t (judged_input a.floor a.batch.now t c.is_short.ensures c.in_ok-judge.ensures) in
    sym (length-take-le a.floor.cells a.cells.now (omega (arith, r.small, r.cells)))

pub returns-then-count_after-gt-CELLS-clause-changing : goal.returns-then-count_after-gt-CELLS-clause-changing
returns-then-count_after-gt-CELLS-clause-changing c =
    let a = c.args in
    let t = lists_of a.cells.now a.outputs.now in
    late_refused a.floor a.batch.now t t (judged_input a.floor a.batch.now t c.is_short.ensures c.in_ok-judge.ensures) c.count_after.result c.count_after.ensures c.if-count_after-gt-CELLS.true refl

pub apply-requires : goal.apply-requires
apply-requires c =
    let a = c.args in
    let t = lists_of a.cells.now a.outputs.now in
    let r : Room a.floor a.batch.now t = room a.floor a.batch.now t (judged_input a.floor a.batch.now t c.is_short.ensures c.in_ok-judge.ensures) in
    (r.small, r.cells, r.confirmed, r.full)

pub returns-clause-changing : goal.returns-clause-changing
returns-clause-changing c =
    let a = c.args in
    let t = lists_of a.cells.now a.outputs.now in
    accepted a.floor a.batch.now t (lists_of c.apply.new.cells c.apply.new.outputs) (judged_input a.floor a.batch.now t c.is_short.ensures c.in_ok-judge.ensures) c.count_after.result c.count_after.ensures c.apply.result c.if-count_after-gt-CELLS.false c.apply.ensures.done
