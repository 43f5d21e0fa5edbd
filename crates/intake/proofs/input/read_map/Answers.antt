-- `input::read_map`: what is lent is too short, or the fields are read (GoingLaws.antt).
use Rattle.std.proofs.Common.{sym, ◌∙◌, inl, inr}
use Rattle.held.specs.Lent.{lists_of}
use Rattle.intake.proofs.GoingLaws.{lent_long, lent_short, taken_lacking, taken_read}
use Rattle.intake.proofs.input.read_map.Goals as goal
use Rattle.intake.proofs.input.read_map.Goals.{then-buffer-lt-WINDOW-via-else-buffer-lt-WINDOW+then-is_short, then-buffer-lt-WINDOW-via-then-buffer-lt-WINDOW}

pub returns-then-buffer-lt-WINDOW-clause-said : goal.returns-then-buffer-lt-WINDOW-clause-said
returns-then-buffer-lt-WINDOW-clause-said g c =
    let b = c.args.buffer.now in
    let t = lists_of c.args.tables.now in
    taken_lacking b t
    (lent_short b t
    (elim c.then-buffer-lt-WINDOW.branch [
      | then-buffer-lt-WINDOW-via-then-buffer-lt-WINDOW w ↦ inl w.if-buffer-lt-WINDOW.true
      | then-buffer-lt-WINDOW-via-else-buffer-lt-WINDOW+then-is_short w ↦ inr (sym w.is_short.ensures ∙ w.if-is_short.true)
    ]))

pub read_fields-requires : goal.read_fields-requires
read_fields-requires g c = lent_long c.args.buffer.now (lists_of c.args.tables.now) c.if-buffer-lt-WINDOW.false (sym c.if-is_short.ensures)

pub returns-clause-said : goal.returns-clause-said
returns-clause-said g c =
    let b = c.args.buffer.now in
    let t = lists_of c.args.tables.now in
    taken_read b t _ _ _ (lent_long b t c.if-buffer-lt-WINDOW.false (sym c.if-is_short.ensures)) c.read_fields.ensures.said
