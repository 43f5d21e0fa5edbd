use Rattle.std.proofs.Common.{sym, ap, ◌∙◌}
use lib.Ieee.{Float, lt, of_bits}
use Rattle.ieee.specs.Constants.{nought}
use Rattle.model.specs.Plane.{tiny}
use Rattle.plane.specs.Values.{pt, vec}
use Rattle.segment.proofs.SquaredLaws.{square_short, square_before}
use Rattle.segment.proofs.measured.Measured.square_to.Goals as goal
use Rattle.segment.proofs.measured.Measured.square_to.Goals.{then-length-via-then-length, then-length-via-else-length+then-shadow}

-- `Measured::square_to`: a segment without length, or a point before its first end. The check finds the other cases. Assumes nothing.
pub returns-then-length : goal.returns-then-length
unfolding tiny of_bits
returns-then-length c =
    let a = c.args in
    let v = vec c.minus-v.result in
    elim c.then-length.branch [ then-length-via-then-length w ↦ c.dot-to_first.ensures ∙ square_short a.self (pt a.p) v c.minus-v.ensures w.if-length.true | then-length-via-else-length+then-shadow w ↦ c.dot-to_first.ensures ∙ square_before a.self (pt a.p) v c.minus-v.ensures w.if-length.false (ap (λ (x : Float). lt x nought) (sym c.dot-shadow.ensures) ∙ w.if-shadow.true) ]
