use Rattle.std.proofs.Common.{ℕ, refl, arith}
use lib.ListN.{length-take}
use Rattle.visibility.specs.Lent.{over}
use Rattle.visibility.proofs.RefuseLaws.{named_refusal}
use Rattle.visibility.proofs.RebuildLaws.{rebuild_done, rebuild_input, rebuild_packed, rebuild_passed, rebuild_points, rebuild_room, rebuild_used}
use Rattle.visibility.proofs.radius.change_radius.Goals as goal

-- `radius::change_radius`: the refusal that applies, or the layer built anew for the radius. Assumes nothing.
pub returns-in_err-judge-clause-said : goal.returns-in_err-judge-clause-said
returns-in_err-judge-clause-said c =
    let a = c.args in
    rebuild_input a.map a.radius (over a.cells.now a.layer.now) _ c.in_err-judge.field-0.0 c.from_residual.ensures.1
    (rw c.is_short.ensures at c.in_err-judge.ensures)

pub slice_bounds-cells-end : goal.slice_bounds-cells-end
slice_bounds-cells-end c =
    let a = c.args in
    let t = over a.cells.now a.layer.now in
    rebuild_used a.map a.radius t (rebuild_passed a.map a.radius t c.is_short.result c.in_ok-judge.ensures c.is_short.ensures)

pub returns-in_err-points-clause-said : goal.returns-in_err-points-clause-said
returns-in_err-points-clause-said c =
    let a = c.args in
    let t = over a.cells.now a.layer.now in
    let x = c.in_err-points.ensures in
    rebuild_packed a.map a.radius t (rebuild_passed a.map a.radius t c.is_short.result c.in_ok-judge.ensures c.is_short.ensures) c.mark.new.present c.mark.new.moods c.corner_cells-found.ensures.0 c.shift_of-shift.ensures _
    (rw x.ok_part at c.mark.ensures.marked) c.in_err-points.field-0.0 c.from_residual-in_err-points.ensures.1 (named_refusal c.mark.result _ c.in_err-points.field-0.0 x.ok_part x.value)

pub draw_afresh-requires : goal.draw_afresh-requires
draw_afresh-requires c =
    let a = c.args in
    let t = over a.cells.now a.layer.now in
    let z = rebuild_passed a.map a.radius t c.is_short.result c.in_ok-judge.ensures c.is_short.ensures in
    let n = c.in_ok-points.points in
    let k = c.mark.new in
    let x = length-take {A = ℕ} n k.present in
    let y = length-take {A = ℕ} n k.moods in
    let p = c.mark.array_long in
    let q = c.mark.array_long2 in (
      omega (arith, x, p),
      omega (arith, y, q),
      rebuild_points a.map a.radius t z,
      (rebuild_room a.map a.radius t z).1.1.1.1.0,
    )

pub returns-clause-said : goal.returns-clause-said
returns-clause-said c =
    let a = c.args in
    let t = over a.cells.now a.layer.now in
    rebuild_done a.map a.radius t (rebuild_passed a.map a.radius t c.is_short.result c.in_ok-judge.ensures c.is_short.ensures) c.mark.new.present c.mark.new.moods c.corner_cells-found.ensures.0 c.shift_of-shift.ensures
    c.in_ok-points.points (over a.cells.now c.draw_afresh.new.layer) c.reach_of.result (rw c.in_ok-points.ensures.ok_part at c.mark.ensures.marked) refl c.reach_of.ensures c.draw_afresh.ensures.drawn
