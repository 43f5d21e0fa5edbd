use native.Mathlib.Omega.{arith}
use mathlib.Core.List.{[]}
use Rattle.sight.proofs.BlockLaws.{seeing_fits}
use Rattle.visibility.proofs.RowLaws.{none_named, none_pairs, rows_more}
use Rattle.visibility.proofs.layer.draw_afresh.Goals as goal

pub returns-clause-drawn : goal.returns-clause-drawn
returns-clause-drawn c =
    let a = c.args in
    let k = c.max-rows.ensures in
    λ ch S P Q at w none rows.
    record {
      drawn = c.draw_points.ensures ch S [] at w;
      filled = c.draw_pairs.ensures ch S P Q w.seeing (omega (arith, (seeing_fits w.seeing).count, k)) (none_pairs P none) (none_named P none)
          (rows_more a.before Q a.layer.now.pairs.now rows c.max-rows.result (omega (arith, k)) (omega (arith, k)));
    }
