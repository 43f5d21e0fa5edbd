use lib.Dec.{eqb}
use lib.ListN.{get_or}
use Rattle.views.proofs.visibility_from.write_paired.Goals as goal

pub returns : goal.returns
returns c = c.keep.ensures.roomy c.requires.1 (λ i. eqb (get_or c.args.row.now i 0) 1) (λ i b h p. p h c.requires.0)
