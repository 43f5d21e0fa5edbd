use Prim.Native.Nat.{◌<◌}
use native.Mathlib.Omega.{arith}
use mathlib.Core.Path.{◌≡◌}
use lib.ListN.{length}
use Rattle.blocks.proofs.ForestLaws.{joined_moved, root_le}
use Rattle.blocks.proofs.forest.Forest.join.Goals as goal

-- `Forest::join`: the root found is made to lead to `to`. Assumes nothing.
pub bounds-self-root : goal.bounds-self-root
bounds-self-root c = omega (arith, root_le c.args.self.now.down c.root_of-root.ensures.0, c.requires.1)

pub offset_bounds-self-root : goal.offset_bounds-self-root
offset_bounds-self-root c = omega (arith, root_le c.args.self.now.down c.root_of-root.ensures.0, c.requires.1)

pub returns : goal.returns
returns c =
    let q = c.root_of-root.new.self.parents in
    let k : length q ≡ 1024 = c.root_of-root.new.self.full in
    let inside : c.root_of-root.result < length q = omega (arith, root_le c.args.self.now.down c.root_of-root.ensures.0, c.requires.1) in
    joined_moved c.args.self.now.parents q c.args.to c.args.at c.root_of-root.result c.root_of-root.ensures.0 c.root_of-root.ensures.1 c.requires.0 c.if-root-to.false inside
