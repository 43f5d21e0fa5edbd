use Rattle.std.proofs.Common.{ap, ◌∙◌, arith}
use Rattle.model.specs.Plane.{Pt}
use Rattle.segment.specs.Squared.{squared}
use Rattle.segment.proofs.NearLaws.{open_all, open_none, corner_near, corner_far, corner_open}
use Rattle.segment.proofs.measured.Measured.passes_near.Goals as goal

pub loop-i-init : goal.loop-i-init
loop-i-init c = let a = c.args in open_all a.self a.proximity a.cell

pub returns-then-q-proximity : goal.returns-then-q-proximity
returns-then-q-proximity c =
    let a = c.args in
    corner_near a.self a.proximity a.cell c.loop-i.i c.loop-i-test.true c.loop-i.invariant c.square_to-q.result (c.square_to-q.ensures ∙ ap (λ (p : Pt). squared c.args.self p) c.corner.ensures) c.if-q-proximity.true

pub returns-then-proximity-q : goal.returns-then-proximity-q
returns-then-proximity-q c =
    let a = c.args in
    corner_far a.self a.proximity a.cell c.loop-i.i c.loop-i-test.true c.loop-i.invariant c.square_to-q.result (c.square_to-q.ensures ∙ ap (λ (p : Pt). squared c.args.self p) c.corner.ensures) c.if-q-proximity.false c.if-proximity-q.true

pub loop-i-preserved : goal.loop-i-preserved
loop-i-preserved c =
    let a = c.args in
    corner_open a.self a.proximity a.cell c.loop-i.i c.loop-i-test.true c.loop-i.invariant c.square_to-q.result (c.square_to-q.ensures ∙ ap (λ (p : Pt). squared c.args.self p) c.corner.ensures) c.if-q-proximity.false c.if-proximity-q.false

pub returns : goal.returns
returns c =
    let a = c.args in
    c.meets_cell.ensures ∙ rw (c.corner-2.ensures, c.corner-3.ensures) (open_none a.self a.proximity a.cell c.loop-i.i (omega arith) (omega arith) c.loop-i.invariant)
