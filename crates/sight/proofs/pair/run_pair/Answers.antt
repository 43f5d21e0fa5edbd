use Rattle.std.proofs.Common.{◌≡◌, rules, refl, ◌∙◌}
use borrow.Author.Tests.{tests}
use Rattle.segment.specs.Many.{prepared}
use Rattle.sight.proofs.EdgeLaws.{edge_none, edge_ran}
use Rattle.sight.proofs.NearLaws.{prepared_answers}
use Rattle.sight.proofs.pair.run_pair.Goals as goal

pub returns-then-changes-eq0 : goal.returns-then-changes-eq0
returns-then-changes-eq0 c =
    let a = c.args in
    edge_none a.ground.size a.ground.radius a.proximity a.ground.cells.now a.p a.q a.changes.cells.now a.changes.full.now a.start c.if-changes-eq0.true

pub returns : goal.returns
returns c =
    let a = c.args in
    edge_ran a.ground.size a.ground.radius a.proximity a.ground.cells.now a.p a.q _ _ a.changes.cells.now a.changes.full.now a.start c.run.result c.run.ensures
    (λ g b k x m l.
    let e : x ≡ prepared c.new-test.result k = search (rules, tests) in
    e ∙ prepared_answers a.ground.size a.ground.radius a.p a.q _ _ _ a.proximity c.new-test.result c.centre.ensures c.centre-2.ensures refl refl c.new-test.ensures g k l)
    (λ r m. search rules)
