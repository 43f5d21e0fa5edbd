use Rattle.answers.proofs.PointLaws.{free_listed}
use Rattle.answers.proofs.points.write_free.Goals as goal

pub returns : goal.returns
returns c = free_listed c.args.points.now c.args.blockers.now c.args.out.now c.keep.new.out c.keep.result (λ i b h p. p h c.requires.0) (c.keep.ensures.roomy c.requires.1)
