-- `listing::list_input`: a refused file's line, or the listing of the map that was read (ShownLaws.antt).
use Rattle.std.proofs.Common.{Ok, Err, sym}
use Rattle.held.specs.Lent.{viewed}
use Rattle.mapfile.proofs.ErrLaws.{err_is}
use Rattle.mapfile.proofs.OwnLaws.{whole_long, zeros, zeros_whole}
use Rattle.intake.specs.declared.listing.ListError.{ListError}
use Rattle.intake.proofs.ShownLaws.{shown_map, shown_refused}
use Rattle.intake.proofs.listing.list_input.Goals as goal

pub returns-in_err-list_map-in-Ok : goal.returns-in_err-list_map-in-Ok
returns-in_err-list_map-in-Ok g c =
    let e = c.in_err-list_map-in-Ok.field-0.0 in
    rw (err_is _ (ListError.Refused e) c.from_residual.ensures.1)
    (shown_map c.args.out.now (sym c.if-is_short.ensures) _ (whole_long zeros zeros_whole) c.in-Ok.map c.in-Ok.ensures.said (viewed c.view.result) c.view.ensures (Err e) c.in_err-list_map-in-Ok.ensures)

pub returns-in_ok-list_map-in-Ok : goal.returns-in_ok-list_map-in-Ok
returns-in_ok-list_map-in-Ok g c =
    shown_map c.args.out.now (sym c.if-is_short.ensures) _ (whole_long zeros zeros_whole) c.in-Ok.map c.in-Ok.ensures.said (viewed c.view.result) c.view.ensures (Ok _) c.in_ok-list_map-in-Ok.ensures

pub returns-in-Err-Refused : goal.returns-in-Err-Refused
returns-in-Err-Refused g c =
    shown_refused c.args.out.now (sym c.if-is_short.ensures) _ (whole_long zeros zeros_whole) c.in-Err-Refused.field-0-0 _ (rw (c.in-Err-Refused.is, c.in-Err-Refused.field-0-is) at c.read_map.ensures.said) (rw (c.number.ensures, c.in-Err-Refused.field-0-is) at c.put_refusal.ensures)
