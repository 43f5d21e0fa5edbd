use Prim.Native.Nat.{◌+◌}
use native.Mathlib.Omega.{arith}
use mathlib.Core.Path.{refl}
use lib.ListN.{get_or}
use Rattle.blocks.proofs.MetLaws.{above_at, above_last, above_touches, met_none, met_sought}
use Rattle.blocks.proofs.count.Cells.join_above.Goals as goal

-- `Cells::join_above`: the cell above is next in the table, if anywhere. Assumes nothing.
pub returns-then-k-eq-LAST_ROW : goal.returns-then-k-eq-LAST_ROW
returns-then-k-eq-LAST_ROW c =
    met_none c.args.forest.now.down c.requires.0 refl refl (λ a l h b t u. above_last (get_or c.args.self.keys.now c.args.i 0) c.if-k-eq-LAST_ROW.true u)

pub returns : goal.returns
returns c =
    let C = c.args.self.keys.now in
    let i = c.args.i in
    met_sought c.args.forest.now.down c.requires.0 (i + 1) c.requires.1 (omega arith) (above_touches (get_or C i 0) c.if-k-eq-LAST_ROW.false) (λ a. above_at C a i) c.join_at.ensures
