use Rattle.std.proofs.Common.{arith, Ok, Err}
use Rattle.mapfile.proofs.ErrLaws.{err_is}
use Rattle.mapfile.proofs.FileLaws.{same_on}
use Rattle.intake.specs.declared.input.InputError.{InputError}
use Rattle.intake.proofs.GoingLaws.{turn_ends, turn_more}
use Rattle.intake.proofs.input.read_fields.Goals as goal

pub loop-window-preserved : goal.loop-window-preserved
loop-window-preserved g c =
    let i = c.loop-window.invariant in
    let m = c.in-More in
    let turned = turn_more _ c.requires (omega arith) i.long i.within i.going c.refill-window.ensures m.next m.used (rw m.is at c.in_ok-next.ensures.said) (omega arith) in
    record {
      long = omega arith;
      same = same_on i.same c.one_field.ensures.same;
      within = (turned.0, c.refill-window.ensures.inside.1);
      going = turned.1;
    }

pub returns-in_err-next-clause-said : goal.returns-in_err-next-clause-said
returns-in_err-next-clause-said g c =
    let i = c.loop-window.invariant in
    let e = c.in_err-next.field-0.0 in
    rw (err_is _ (InputError.Refused e) c.from_residual.ensures.1) (turn_ends _ c.requires (omega arith) i.long i.within i.going c.refill-window.ensures (Err e) c.in_err-next.ensures.said)

pub returns-in-Done-clause-said : goal.returns-in-Done-clause-said
returns-in-Done-clause-said g c =
    let i = c.loop-window.invariant in
    turn_ends _ c.requires (omega arith) i.long i.within i.going c.refill-window.ensures (Ok c.in-Done.map) (rw c.in-Done.is at c.in_ok-next.ensures.said)
