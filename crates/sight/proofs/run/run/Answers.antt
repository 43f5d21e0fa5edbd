use Rattle.std.proofs.Common.{sym, take}
use Rattle.std.proofs.lemmas.Iterator.{YieldsList-from_slice, YieldsList-from_zip}
use Rattle.std.proofs.lemmas.Iterator.Consumers.{YieldsList-end}
use Rattle.sight.proofs.RunLaws.{ran_freed, ran_kept, ran_met, ran_passed, zip_cut}
use Rattle.sight.proofs.run.run.Goals as goal

pub loop-c-preserved-then-block-c : goal.loop-c-preserved-then-block-c
loop-c-preserved-then-block-c g c = ran_freed _ _ c.loop-c.yielded c.args.start c.loop-c.block c.in-Some.c c.in-Some.full c.loop-c.invariant c.if-full-eq0.true c.if-block-c.true c.again-block.result c.again-block.ensures

pub loop-c-preserved-else-block-c : goal.loop-c-preserved-else-block-c
loop-c-preserved-else-block-c g c = ran_kept _ _ c.loop-c.yielded c.args.start c.loop-c.block c.in-Some.c c.in-Some.full c.loop-c.invariant c.if-full-eq0.true c.if-block-c.false

pub loop-c-preserved-then-meets : goal.loop-c-preserved-then-meets
loop-c-preserved-then-meets g c = ran_met _ _ c.loop-c.yielded c.args.start c.loop-c.block c.in-Some.c c.in-Some.full c.loop-c.invariant c.if-full-eq0.false c.meets.result c.meets.ensures c.if-meets.true

pub loop-c-preserved : goal.loop-c-preserved
loop-c-preserved g c = ran_passed _ _ c.loop-c.yielded c.args.start c.loop-c.block c.in-Some.c c.in-Some.full c.loop-c.invariant c.if-full-eq0.false c.meets.result c.meets.ensures c.if-meets.false

pub returns : goal.returns
returns g c =
    let a = c.args.changes in
    let n = c.min-n.result in
    let all = YieldsList-end (YieldsList-from_zip (YieldsList-from_slice (take n a.cells.now) (cc)) (YieldsList-from_slice (take n a.full.now) (cc))) c.loop-c.yielded c.loop-c.c-iterator c.loop-c.yielded_by c.next.result c.next.new.self c.in-None.is c.next.ensures.steps in
    rw (sym (zip_cut n a.cells.now a.full.now c.min-n.ensures), sym all.0) c.loop-c.invariant
