-- `field::take_batch`: the entries as numbers, then refused, or on to the next (BatchLaws.antt).
use Rattle.mapfile.proofs.BatchLaws.{batch_refused, batch_taken, front_is, front_whole}
use Rattle.mapfile.proofs.ErrLaws.{err_is}
use Rattle.mapfile.proofs.field.take_batch.Goals as goal

pub returns-in_err-changed-clause-said : goal.returns-in_err-changed-clause-said
returns-in_err-changed-clause-said c =
    let n = c.numbers_of-n in
    let e = c.in_err-changed.field-0.0 in
    rw (err_is _ e c.from_residual.ensures.1)
    (batch_refused _ _ _ _ _ _ (front_whole _ _ _ n.ensures n.auto.out) (front_is _ _ _ n.ensures n.auto.out c.requires.0 c.requires.1) e c.in_err-changed.ensures.said)

pub returns-clause-said : goal.returns-clause-said
returns-clause-said c =
    let n = c.numbers_of-n in
    batch_taken _ _ _ _ _ _ (front_whole _ _ _ n.ensures n.auto.out) (front_is _ _ _ n.ensures n.auto.out c.requires.0 c.requires.1) _ c.in_ok-changed.ensures.said _ c.onward.ensures
