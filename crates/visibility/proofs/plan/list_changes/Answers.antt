use native.Mathlib.Omega.{arith}
use lib.Seq.{length-take-le}
use Rattle.batches.proofs.AlterLaws.{corners_listed}
use Rattle.limits.specs.Batches.{entries}
use Rattle.visibility.proofs.plan.list_changes.Goals as goal

pub returns : goal.returns
returns c =
    let a = c.args in
    let l = entries a.batch.now in
    let f = c.confirm-changes in
    let k = c.corner_changes-found in
    let t = length-take-le f.result f.new.out (omega arith) in (
      omega arith,
      omega (arith, t),
      λ asc o b.
          let w = f.ensures.0 asc o b (omega arith) (omega arith) in (
            w,
            corners_listed l a.cells.now a.confirmed.now f.new.out a.full.now f.new.full f.result asc o b w
                a.corners.now k.new.out a.altered.now k.new.statuses k.result c.requires.3 (omega arith) k.ensures.0,
          ),
    )
