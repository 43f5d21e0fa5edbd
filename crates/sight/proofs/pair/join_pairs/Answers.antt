use native.Mathlib.Omega.{arith}
use Rattle.sight.proofs.JoinLaws.{rows_end, rows_more, seeing_lengths}
use Rattle.sight.proofs.pair.join_pairs.Goals as goal
use Rattle.sight.proofs.pair.join_pairs.Goals.{then-changes-via-then-changes, then-changes-via-else-changes+then-present-n, then-n-gt-POINTS-via-then-n-gt-POINTS, then-n-gt-POINTS-via-else-n-gt-POINTS+then-out-n}

pub returns-then-changes : goal.returns-then-changes
returns-then-changes c = λ ch S P seeing pairs named space few s.
    let a = c.args in
    let k = seeing_lengths a.ground.cells.now ch S a.changes.cells.now a.changes.full.now a.present.points.now a.present.words.now seeing in
    absurd (elim c.then-changes.branch [ then-changes-via-then-changes t ↦ omega arith | then-changes-via-else-changes+then-present-n t ↦ omega arith ])

pub returns-then-n-gt-POINTS : goal.returns-then-n-gt-POINTS
returns-then-n-gt-POINTS c = λ ch S P seeing pairs named space few s.
    let a = c.args in
    let k = seeing_lengths a.ground.cells.now ch S a.changes.cells.now a.changes.full.now a.present.points.now a.present.words.now seeing in
    absurd (elim c.then-n-gt-POINTS.branch [ then-n-gt-POINTS-via-then-n-gt-POINTS t ↦ omega arith | then-n-gt-POINTS-via-else-n-gt-POINTS+then-out-n t ↦ omega arith ])

pub loop-i-preserved : goal.loop-i-preserved
loop-i-preserved c =
    let g = c.loop-i in
    let a = c.args in
    rows_more a.ground.size a.ground.radius c.new-proximity.result a.ground.cells.now a.changes.cells.now a.changes.full.now a.present.points.now a.present.words.now a.old.now g.i a.out.now g.out c.join_row.new.out g.invariant c.loop-i-test.true c.join_row.auto.out
    (λ ch S P w s. c.join_row.ensures ch S P w.seeing w.is_proximity w.pairs w.named s)

pub returns : goal.returns
returns c = λ ch S P seeing pairs named space few s.
    let g = c.loop-i in
    let a = c.args in
    rows_end a.ground.size a.ground.radius c.new-proximity.result a.ground.cells.now a.changes.cells.now a.changes.full.now a.present.points.now a.present.words.now a.old.now g.i a.out.now g.out g.invariant c.loop-i-test.false ch S P
    (record { seeing = seeing; is_proximity = c.new-proximity.ensures; pairs = pairs; named = named }) s
