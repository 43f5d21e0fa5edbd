use Rattle.std.proofs.Common.{length-append, arith}
use Rattle.std.proofs.lemmas.Slice.Zip.{zip_turn, zip_end}
use Rattle.marks.proofs.GatherLaws.{gathered_none, gathered_more, gathered_done}
use Rattle.marks.proofs.gather.gather.Goals as goal

pub loop-k-init : goal.loop-k-init
loop-k-init c =
    let a = c.args in
    gathered_none a.candidates.now a.corners.cells.now a.corners.statuses.now a.n a.shift

pub loop-k-preserved : goal.loop-k-preserved
loop-k-preserved c =
    let r = c.put_corners-used in
    let l = c.loop-k in
    let a = c.args in
    let x = c.in-Some in
    let t = zip_turn a.corners.cells.now a.corners.statuses.now l.yielded c.into_iter-k-iterator.result l.k-iterator c.next.new.self c.next.result (cc) (cc) l.yielded_by (x.k, x.status) x.is c.next.ensures.steps in
    rw length-append
    (gathered_more a.candidates.now l.candidates a.corners.cells.now a.corners.statuses.now a.n l.used _ a.shift l.invariant t.0 c.if-used-gt-CANDIDATES.false _ _ (t.2 0) (t.3 0) r.new.candidates r.result r.auto.candidates r.ensures)

pub returns-then-used-gt-CANDIDATES : goal.returns-then-used-gt-CANDIDATES
returns-then-used-gt-CANDIDATES c =
    let l = c.loop-k in
    let a = c.args in
    gathered_done a.candidates.now l.candidates a.corners.cells.now a.corners.statuses.now a.n l.used _ a.shift l.invariant (λ e h. absurd (omega (arith, c.if-used-gt-CANDIDATES.true)))

pub returns : goal.returns
returns c =
    let l = c.loop-k in
    let a = c.args in
    let z = zip_end a.corners.cells.now a.corners.statuses.now l.yielded c.into_iter-k-iterator.result l.k-iterator c.next.new.self c.next.result (cc) (cc) l.yielded_by c.in-None.is c.next.ensures.steps in
    gathered_done a.candidates.now l.candidates a.corners.cells.now a.corners.statuses.now a.n l.used _ a.shift l.invariant (λ e h. omega (arith, z))
