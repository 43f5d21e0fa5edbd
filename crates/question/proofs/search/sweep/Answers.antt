use mathlib.Core.Bool.{true, false}
use mathlib.Core.Path.{◌≡◌, ap, ◌∙◌}
use lib.Ieee.{lt, of_bits}
use Rattle.model.specs.Plane.{minus, norm, tiny}
use Rattle.plane.specs.Values.{pt}
use Rattle.question.specs.Walk.{found_as}
use Rattle.question.proofs.TakenLaws.{sweep_found, sweep_short}
use Rattle.question.proofs.search.sweep.Goals as goal

pub returns-then-length : goal.returns-then-length
unfolding tiny
returns-then-length c =
    let way : let s = c.args in c.norm-length.result ≡ norm (minus (pt s.p1) (pt s.p0)) = c.norm-length.ensures ∙ ap norm c.minus.ensures in
    let s = c.args in
    let t : lt (norm (minus (pt s.p1) (pt s.p0))) tiny ≡ true = rw way at c.if-length.true in
    λ a i. c.point.ensures a ∙ ap found_as (sweep_short s.size s.cells.now (pt s.p0) (pt s.p1) s.width t)

pub returns : goal.returns
unfolding tiny of_bits
returns c =
    let way : let s = c.args in c.norm-length.result ≡ norm (minus (pt s.p1) (pt s.p0)) = c.norm-length.ensures ∙ ap norm c.minus.ensures in
    let s = c.args in
    let t : lt (norm (minus (pt s.p1) (pt s.p0))) tiny ≡ false = rw way at c.if-length.false in
    λ a i. sweep_found s.size s.cells.now i c.first_taken.result c.columns.result (pt s.p0) (pt s.p1) s.width c.new-strip.result t (c.new-strip.ensures way) c.columns.ensures (c.first_taken.ensures a)
