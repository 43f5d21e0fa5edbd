use mathlib.Core.Logic.{inl, inr}
use lib.ListN.{length}
use Rattle.sight.proofs.BlockLaws.{blocking_next, blocking_end, never_short}
use Rattle.sight.proofs.blocker.block_points.Goals as goal
use Rattle.sight.proofs.blocker.block_points.Goals.{then-changes-via-then-changes, then-changes-via-else-changes+then-present-n, then-changes-via-else-changes+else-present-n+then-out-n}

pub returns-then-changes : goal.returns-then-changes
returns-then-changes c =
    let x = c.args in
    λ ch S B s n b a h. absurd (never_short (length x.out.now) s h
    (elim c.then-changes.branch [
      | then-changes-via-then-changes w ↦ inl w.if-changes.true
      | then-changes-via-else-changes+then-present-n w ↦ inr (inl w.if-present-n.true)
      | then-changes-via-else-changes+else-present-n+then-out-n w ↦ inr (inr w.if-out-n.true)
    ]))

pub loop-i-preserved : goal.loop-i-preserved
loop-i-preserved c =
    blocking_next c.loop-i.invariant c.of_word.result c.start_point-start.result c.run_point.result c.loop-i-test.true c.if-out-n.false c.of_word.ensures.2 c.start_point-start.ensures c.run_point.ensures

pub returns : goal.returns
returns c = λ ch S B s n b a h. blocking_end c.loop-i.invariant c.loop-i-test.false ch S B s n b a
