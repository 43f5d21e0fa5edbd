use native.Mathlib.Omega.{arith}
use Rattle.sight.proofs.BlockLaws.{seeing_fits}
use Rattle.visibility.proofs.RowLaws.{rows_copied, rows_more}
use Rattle.visibility.proofs.layer.replace_pairs.Goals as goal

pub returns : goal.returns
returns g c = λ ch S P seeing named w.
    let a = c.args in
    let k = c.max-rows.ensures in
    c.draw_pairs.ensures ch S P P seeing (omega (arith, (seeing_fits seeing).count, k)) (rows_copied a.count P a.pairs.now w g.row.N c.copy.new.to (omega arith) (omega arith) c.copy.ensures) named
    (rows_more a.count P a.pairs.now w c.max-rows.result (omega (arith, k)) (omega (arith, k)))
