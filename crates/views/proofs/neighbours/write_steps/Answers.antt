use Rattle.views.proofs.AroundLaws.{steps_listed}
use Rattle.views.proofs.neighbours.write_steps.Goals as goal

pub returns : goal.returns
returns c =
    let a = c.args in
    let m = a.ground in
    λ u v. steps_listed m.size m.radius m.cells.now a.k a.out.now c.keep.new.out c.keep.result (λ i b h p. p u v) (c.keep.ensures.roomy c.requires.1)
