use Rattle.std.proofs.Common.{refl, arith, Ok, Err}
use Rattle.table.proofs.Parts.{tail_is}
use Rattle.mapfile.proofs.ErrLaws.{err_is}
use Rattle.mapfile.proofs.FileLaws.{read_ends, read_more, read_none, same_on}
use Rattle.mapfile.proofs.file.read_fields.Goals as goal

pub loop-next-init : goal.loop-next-init
loop-next-init c = record {
  read = read_none _ _ _ c.begin-reader.ensures c.requires;
  same = record { cells = refl; points = refl; statuses = refl; blockers = refl; pairs = refl };
}

pub loop-next-preserved : goal.loop-next-preserved
loop-next-preserved c =
    let i = c.loop-next.invariant in
    record {
      read = rw (tail_is c.in-More.used c.loop-next.rest.now) (read_more i.read (omega arith) _ _ (rw c.in-More.is at c.in_ok-next.ensures.said));
      same = same_on i.same c.one_field.ensures.same;
    }

pub returns-in_err-next-clause-said : goal.returns-in_err-next-clause-said
returns-in_err-next-clause-said c =
    let e = c.in_err-next.field-0.0 in
    rw (err_is _ e c.from_residual.ensures.1) (read_ends c.loop-next.invariant.read (omega arith) (Err e) c.in_err-next.ensures.said).0

pub returns-in-Done-clause-said : goal.returns-in-Done-clause-said
returns-in-Done-clause-said c = (read_ends c.loop-next.invariant.read (omega arith) (Ok c.in-Done.map) (rw c.in-Done.is at c.in_ok-next.ensures.said)).0
