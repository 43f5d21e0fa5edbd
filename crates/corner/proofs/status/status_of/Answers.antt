use native.Mathlib.Omega.{arith}
use mathlib.Core.Path.{sym, ◌∙◌}
use Rattle.corner.proofs.CornersLaws.{status_sum, status_none}
use Rattle.corner.proofs.status.status_of.Goals as goal
use Rattle.corner.proofs.status.status_of.Goals.{then-k-lt-DIAGONAL-via-then-k-lt-DIAGONAL, then-k-lt-DIAGONAL-via-else-k-lt-DIAGONAL+then-k-ge-OUTERMOST, then-k-lt-DIAGONAL-via-else-k-lt-DIAGONAL+else-k-ge-OUTERMOST+then-not-contains}

-- `status::status_of`: the four corners of an occupied cell, each where its three neighbours are free. Assumes nothing.
pub returns-then-k-lt-DIAGONAL : goal.returns-then-k-lt-DIAGONAL
returns-then-k-lt-DIAGONAL c =
    λ h low high.
    let a = c.args in
    elim c.then-k-lt-DIAGONAL.branch [
      | then-k-lt-DIAGONAL-via-then-k-lt-DIAGONAL w ↦ absurd (omega (arith, low, w.if-k-lt-DIAGONAL.true))
      | then-k-lt-DIAGONAL-via-else-k-lt-DIAGONAL+then-k-ge-OUTERMOST w ↦ absurd (omega (arith, high, w.if-k-ge-OUTERMOST.true))
      | then-k-lt-DIAGONAL-via-else-k-lt-DIAGONAL+else-k-ge-OUTERMOST+then-not-contains w ↦ sym (status_none a.cells.now a.k (sym (w.contains.ensures h) ∙ w.if-not-contains.true))
    ]

pub returns : goal.returns
returns c =
    λ h low high.
    let a = c.args in
    let there = sym (c.contains.ensures h) ∙ c.if-not-contains.false in
    rw (c.bit_if-sw.ensures.0 h, c.bit_if-se.ensures.0 h, c.bit_if-nw.ensures.0 h, c.bit_if-ne.ensures.0 h) (sym (status_sum a.cells.now a.k there))
