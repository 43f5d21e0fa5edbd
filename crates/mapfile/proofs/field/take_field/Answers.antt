-- `field::take_field`: by its head, and by what is expected (FieldLaws.antt).
use Rattle.std.proofs.Common.{◌≡◌, ap, sym, refl, eqb-true}
use borrow.Author.Tests.{eqb-false}
use Rattle.mapfile.specs.Fields.{HeadRead, expected_of}
use Rattle.model.specs.MapFile as model
use Rattle.model.specs.MapFile.{take_batch, take_end, take_radius, take_size}
use Rattle.std.proofs.Common.{Ok}
use Rattle.mapfile.proofs.ErrLaws.{err_is}
use Rattle.mapfile.proofs.FieldLaws.{batch_flags, batch_long, field_refused, field_stopped, field_taken, is_batch, is_end, never_end, radius_long, size_long, used_within}
use Rattle.mapfile.proofs.TakeLaws.{took_end, took_size}
use Rattle.mapfile.proofs.field.take_field.Goals as goal
use Rattle.mapfile.proofs.field.take_field.Goals.{In_ok-head}

-- the head of what is expected
headed : (c : In_ok-head) (e : model.Expected) → expected_of c.args.reader.expected ≡ e → HeadRead e c.args.bytes.now (Ok c.in_ok-head.head)
headed c e x = rw (← x) c.in_ok-head.ensures

pub returns-then-is_empty-clause-said : goal.returns-then-is_empty-clause-said
returns-then-is_empty-clause-said c = field_stopped _ _ _ (sym c.if-is_short.ensures) (eqb-true _ 0 (sym c.if-is_empty.ensures)) _ c.stop.ensures

pub returns-in_err-head-clause-said : goal.returns-in_err-head-clause-said
returns-in_err-head-clause-said c =
    let e = c.in_err-head.field-0.0 in
    rw (err_is _ e c.from_residual.ensures.1) (field_refused _ _ _ (sym c.if-is_short.ensures) (eqb-false _ 0 (sym c.if-is_empty.ensures)) e c.in_err-head.ensures)

pub slice_bounds-value-end : goal.slice_bounds-value-end
slice_bounds-value-end c = used_within _ _ _ c.in_ok-head.ensures

pub take_size-requires : goal.take_size-requires
take_size-requires c = size_long _ _ (headed (goal.at.take_size-requires c).In_ok-head model.size (ap expected_of c.in-Size.is))

pub take_radius-requires : goal.take_radius-requires
take_radius-requires c = radius_long _ _ (headed (goal.at.take_radius-requires c).In_ok-head model.radius (ap expected_of c.in-Radius.is))

pub take_batch-requires : goal.take_batch-requires
take_batch-requires c =
    let q = headed (goal.at.take_batch-requires c).In_ok-head model.batches (ap expected_of c.in-Batches.is) in
    (batch_long _ _ q c.if-head-eq3.true, batch_flags _ _ q c.if-head-eq3.true)

pub returns-in-Size-clause-said : goal.returns-in-Size-clause-said
returns-in-Size-clause-said c =
    field_taken _ _ _ (sym c.if-is_short.ensures) (eqb-false _ 0 (sym c.if-is_empty.ensures)) _ c.in_ok-head.ensures model.size (ap expected_of c.in-Size.is) take_size (λ R v rest. refl) _ _
    (rw c.take_size.ensures (took_size _ _ _ _))

pub returns-in-Radius-clause-said : goal.returns-in-Radius-clause-said
returns-in-Radius-clause-said c =
    field_taken _ _ _ (sym c.if-is_short.ensures) (eqb-false _ 0 (sym c.if-is_empty.ensures)) _ c.in_ok-head.ensures model.radius (ap expected_of c.in-Radius.is) take_radius (λ R v rest. refl) _ _ c.take_radius.ensures.said

pub returns-in-Batches-clause-said : goal.returns-in-Batches-clause-said
returns-in-Batches-clause-said c =
    field_taken _ _ _ (sym c.if-is_short.ensures) (eqb-false _ 0 (sym c.if-is_empty.ensures)) _ c.in_ok-head.ensures model.batches (ap expected_of c.in-Batches.is) take_batch (is_batch _ c.if-head-eq3.true) _ _ c.take_batch.ensures.said

pub returns-in-Batches-2-clause-said : goal.returns-in-Batches-2-clause-said
returns-in-Batches-2-clause-said c =
    field_taken _ _ _ (sym c.if-is_short.ensures) (eqb-false _ 0 (sym c.if-is_empty.ensures)) _ c.in_ok-head.ensures model.batches (ap expected_of c.in-Batches-2.is)
    (λ R v rest. take_end R rest) (is_end _ c.if-head-eq3.false) _ _ (took_end _ _ _ _ _ c.onward-next.ensures)

pub returns-in-End-clause-said : goal.returns-in-End-clause-said
returns-in-End-clause-said c = absurd (never_end _ _ (headed (goal.at.returns-in-End-clause-said c).In_ok-head model.end (ap expected_of c.in-End.is)))
