use Rattle.views.proofs.SeenLaws.{seen_listed_lem}
use Rattle.views.proofs.visibility_from.write_seen.Goals as goal

pub returns : goal.returns
returns c =
    let a = c.args in
    let m = a.ground in
    λ ps u v x y z n. seen_listed_lem m.size m.radius m.cells.now a.points.now a.statuses.now a.blockers.now a.k ps u v x y z n a.out.now c.keep.new.out c.keep.result (λ i b h p. p h c.requires.0 c.requires.1) (c.keep.ensures.roomy c.requires.2)
