use Rattle.std.proofs.Common.{rules}
use borrow.Author.Tests.{tests}
use Rattle.sight.proofs.PointLaws.{point_ran}
use Rattle.sight.proofs.blocker.run_point.Goals as goal

pub returns : goal.returns
returns c =
    let a = c.args in
    point_ran a.ground.size a.ground.radius a.reach a.ground.cells.now a.k _ _ a.changes.cells.now a.changes.full.now a.start c.run.result c.run.ensures (λ b k x m. search (rules, tests)) (λ r m. search rules)
