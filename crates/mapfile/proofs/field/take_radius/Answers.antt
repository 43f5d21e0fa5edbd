-- `field::take_radius`: the map is opened with it, or not (RadiusLaws.antt).
use Rattle.mapfile.proofs.ErrLaws.{err_is}
use Rattle.mapfile.proofs.RadiusLaws.{radius_refused, radius_taken}
use Rattle.mapfile.proofs.field.take_radius.Goals as goal

pub returns-in_err-map-clause-said : goal.returns-in_err-map-clause-said
returns-in_err-map-clause-said c =
    let e = c.in_err-map.field-0.0 in
    rw (err_is _ e c.from_residual.ensures.1) (radius_refused _ _ _ _ _ _ c.float_at.ensures e c.in_err-map.ensures.said)

pub returns-clause-said : goal.returns-clause-said
returns-clause-said c = radius_taken _ _ _ _ _ _ c.float_at.ensures _ c.in_ok-map.ensures.said _ c.onward.ensures
