use Prim.Native.Nat.{◌+◌}
use native.Mathlib.Omega.{arith}
use mathlib.Core.Path.{refl}
use lib.ListN.{get_or}
use Rattle.model.specs.Cell.{W}
use Rattle.blocks.proofs.MetLaws.{met_none, met_sought, right_at, right_touches}
use Rattle.blocks.proofs.count.Cells.join_right.Goals as goal

-- `Cells::join_right`: the cell to the right is looked for after place i. Assumes nothing.
pub returns-then-k-ge-LAST_COLUMN : goal.returns-then-k-ge-LAST_COLUMN
returns-then-k-ge-LAST_COLUMN c =
    met_none c.args.forest.now.down c.requires.0 refl refl (λ a l h b t u. omega (arith, c.if-k-ge-LAST_COLUMN.true, c.args.self.words l))

pub returns : goal.returns
returns c =
    let C = c.args.self.keys.now in
    let i = c.args.i in
    met_sought c.args.forest.now.down c.requires.0 (i + 1 + c.place.result) c.requires.1 (omega arith) (right_touches (get_or C i 0))
    (λ a. right_at C a i (get_or C i 0 + W) c.place.result c.place.ensures.1) c.join_at.ensures
