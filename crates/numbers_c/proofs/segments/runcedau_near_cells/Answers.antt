use Rattle.std.proofs.Common.{◌≡◌, ℕ, ◌<◌, ◌≤◌, length, get_or, sym, ap, ◌∙◌, arith, le-leb}
use Rattle.table.proofs.Front.{mix}
use Rattle.model.specs.Segment.{passes_near}
use Rattle.segment.specs.Many.{prepared}
use Rattle.segment.specs.Values.{seg}
use Rattle.segment.proofs.SpanLaws.{prepared_near}
use Rattle.numbers_c.specs.Cells.{number}
use Rattle.numbers_c.proofs.CellsLaws.{answers, answer_more, byte_number, told_all}
use Rattle.numbers_c.proofs.segments.runcedau_near_cells.Goals as goal

pub loop-i-preserved : goal.loop-i-preserved
loop-i-preserved c =
    let a = c.args in
    let f = prepared c.new-test.result in
    let e = c.from.ensures ∙ byte_number c.passes.result ∙ ap number c.passes.ensures in
    let more = answer_more f a.cells.now a.near.now c.loop-i.i (omega arith) (omega arith) in
    rw (e, c.loop-i.invariant) more

-- each answer is the model's, since the test was prepared for this segment
pub returns : goal.returns
returns c =
    let a = c.args in
    let l : length a.cells.now ≤ length a.near.now = omega arith in
    let i : c.loop-i.i ≡ length a.cells.now = omega arith in
    let f = prepared c.new-test.result in
    let same : (j : ℕ) → j < length a.cells.now → f (get_or a.cells.now j 0) ≡ passes_near (seg a.s) (get_or a.cells.now j 0) a.size a.radius =
    λ j h. prepared_near a.s c.new.result c.new-test.result (get_or a.cells.now j 0) a.size a.radius (c.type_inv.cells j).fits c.new-test.ensures c.new.ensures in
    (sym (le-leb (length a.cells.now) (length a.near.now) l), c.loop-i.invariant ∙ ap (mix (answers f a.cells.now) a.near.now) i ∙ told_all _ a.size a.radius a.cells.now a.near.now f same l)
