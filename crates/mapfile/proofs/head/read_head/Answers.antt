-- `head::read_head`: the tag before the length, the length before the value (HeadLaws.antt).
use Rattle.std.proofs.Common.{◌≡◌, ℕ, sym, ap, ◌∙◌, get_or, arith}
use Rattle.mapfile.specs.Fields.{expected_of, length_at}
use Rattle.mapfile.specs.declared.head.Head.{Head}
use Rattle.table.proofs.Parts.{tail_is}
use Rattle.mapfile.proofs.ErrLaws.{err_is}
use Rattle.mapfile.proofs.HeadLaws.{at_due, at_short, at_unplaced}
use Rattle.mapfile.proofs.head.read_head.Goals as goal

abbrev headed : ℕ → ℕ → Head
headed t l = record { tag = t; length = l }

pub returns-in_default : goal.returns-in_default
returns-in_default c = at_short (expected_of c.args.expected) c.args.bytes.now c.in_default.len_below

pub returns-then-not-placed : goal.returns-then-not-placed
returns-then-not-placed c = at_unplaced (expected_of c.args.expected) c.args.bytes.now c.in-len3-up.len_at_least (sym c.placed.ensures ∙ c.if-not-placed.true)

pub returns-in_err-due : goal.returns-in_err-due
returns-in_err-due c =
    let e = c.in_err-due.field-0.0 in
    let b = c.args.bytes.now in
    let n : c.from_be_bytes-length.result ≡ length_at b = omega (arith, c.from_be_bytes-length.ensures) in
    rw (err_is _ e c.from_residual.ensures.1)
    (at_due (expected_of c.args.expected) b _ _ _ c.in-len3-up.len_at_least (sym c.placed.ensures ∙ c.if-not-placed.false) n (tail_is 3 b) c.in_err-due.ensures)

pub returns : goal.returns
returns c =
    let b = c.args.bytes.now in
    let n : c.from_be_bytes-length.result ≡ length_at b = omega (arith, c.from_be_bytes-length.ensures) in (
      at_due (expected_of c.args.expected) b _ _ _ c.in-len3-up.len_at_least (sym c.placed.ensures ∙ c.if-not-placed.false) n (tail_is 3 b) c.in_ok-due.ensures,
      ap (λ (l : ℕ). headed (get_or b 0 0) l) n,
    )
