use Rattle.std.proofs.Common.{refl}
use Rattle.visibility.proofs.FinishLaws.{finished}
use Rattle.visibility.proofs.change.finish.Goals as goal

-- `change::finish`: the cells, the layer over them, and the outputs. Assumes nothing.
pub returns-clause-finished : goal.returns-clause-finished
returns-clause-finished c =
    -- the cells, the layer, the four lists before and after
    let k = c.commit_cells-used in
    let g = c.redraw.new in
    let o = c.args.outputs.now in
    let p = c.list.new.outputs in
    let w = c.list.ensures.listed in (
      refl,
      λ M l at f hc hf hn ha. finished f k.new.cells k.result k.ensures g.points g.statuses g.blockers g.pairs c.args.reach at c.redraw.ensures
          o.confirmed.now p.confirmed.now o.full.now p.full.now o.corners.now p.corners.now o.altered.now p.altered.now hc hf hn ha w.0 w.1 w.2 w.3,
    )
