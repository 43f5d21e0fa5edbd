use lib.ListN.{length}
use Rattle.model.specs.Map.{tests}
use Rattle.sight.specs.Paired.{pair_at}
use Rattle.visibility.proofs.RowLaws.{rows_drawn}
use Rattle.visibility.proofs.layer.draw_pairs.Goals as goal

pub returns : goal.returns
returns c = λ ch S P Q seeing few pairs named w.
    let g = c.args.basis.ground in
    rows_drawn c.args.rows Q c.args.pairs.now w (pair_at (tests g.size g.radius) g.cells.now ch P S) c.fill.new.t c.join_pairs.new.out (length S) c.fill.ensures few
    (c.join_pairs.ensures ch S P seeing pairs named)
