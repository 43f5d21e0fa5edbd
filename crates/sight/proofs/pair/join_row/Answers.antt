use Rattle.sight.proofs.JoinLaws.{row_end, row_more, row_start, told_at}
use Rattle.sight.proofs.pair.join_row.Goals as goal

pub loop-j-init : goal.loop-j-init
loop-j-init c =
    let a = c.args in
    row_start a.ground.size a.ground.radius a.proximity a.ground.cells.now a.changes.cells.now a.changes.full.now a.present.points.now a.present.words.now a.old.now a.i a.out.now c.requires.2 c.requires.1

pub loop-j-preserved : goal.loop-j-preserved
loop-j-preserved c =
    let g = c.loop-j in
    let r = c.requires in
    let a = c.args in
    row_more a.ground.size a.ground.radius a.proximity a.ground.cells.now a.changes.cells.now a.changes.full.now a.present.points.now a.present.words.now a.old.now a.i g.j a.out.now g.out c.pair_between-pair.result g.invariant c.loop-j-test.true r.1 r.3
    (told_at a.ground.size a.ground.radius a.proximity a.ground.cells.now a.changes.cells.now a.changes.full.now a.present.points.now a.present.words.now a.old.now a.i g.j _ _ _ _ c.pair_between-pair.result g.invariant.above c.loop-j-test.true
    c.point_at-p.ensures c.point_at.ensures c.pair_between-pair.ensures)

pub returns : goal.returns
returns c = λ ch S P seeing is_proximity pairs named s.
    let g = c.loop-j in
    let a = c.args in
    row_end a.ground.size a.ground.radius a.proximity a.ground.cells.now a.changes.cells.now a.changes.full.now a.present.points.now a.present.words.now a.old.now a.i g.j a.out.now g.out g.invariant c.loop-j-test.false c.requires.1 ch S P
    (record { seeing = seeing; is_proximity = is_proximity; pairs = pairs; named = named }) s
