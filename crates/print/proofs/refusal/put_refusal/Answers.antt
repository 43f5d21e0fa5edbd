-- `refusal::put_refusal`: number by number.
use Rattle.std.proofs.Common.{zero-le, sym, ◌∙◌, arith, rules}
use borrow.Author.Tests.{le-leb}
use Rattle.model.specs.Listing.{decimal, refused_line, text}
use Rattle.print.proofs.PrintLaws.{printed_done}
use Rattle.print.proofs.PutLaws.{put_both, put_then}
use Rattle.print.proofs.WroteLaws.{printed_in}
use Rattle.print.proofs.refusal.put_refusal.Goals as goal

pub returns : goal.returns
unfolding refused_line text
returns c =
    let p₁ = c.labelled.ensures in
    let p₂ = c.labelled-2.ensures in
    let p₃ = c.byte.ensures in
    let p = put_then (put_both p₁.put zero-le (text " at ") (decimal c.args.field) p₂.put) zero-le p₃.put in
    let same = sym (p₃.same ∙ p₂.same ∙ p₁.same) in
    printed_in (printed_done (le-leb _ _ c.if-out-lt-LINE.false) p (omega (arith, p.end))) (search (rules, same))
