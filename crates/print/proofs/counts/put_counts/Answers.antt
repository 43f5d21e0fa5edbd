-- `counts::put_counts`: count by count.
use Rattle.std.proofs.Common.{zero-le, sym, ◌∙◌, arith, rules}
use borrow.Author.Tests.{le-leb}
use Rattle.model.specs.Listing.{decimal, text}
use Rattle.print.proofs.PrintLaws.{printed_done}
use Rattle.print.proofs.PutLaws.{put_both, put_then}
use Rattle.print.proofs.WroteLaws.{printed_in}
use Rattle.print.proofs.counts.put_counts.Goals as goal

pub returns : goal.returns
unfolding text
returns c =
    let n = c.args.counts in
    let p₁ = c.labelled.ensures in
    let p₂ = c.labelled-2.ensures in
    let p₃ = c.labelled-3.ensures in
    let p₄ = c.labelled-4.ensures in
    let p₅ = c.labelled-5.ensures in
    let p₆ = c.labelled-6.ensures in
    let p₇ = c.byte.ensures in
    let q₂ = put_both p₁.put zero-le (text " corners ") (decimal n.corners) p₂.put in
    let q₃ = put_both q₂ zero-le (text " points ") (decimal n.points) p₃.put in
    let q₄ = put_both q₃ zero-le (text " edges ") (decimal n.edges) p₄.put in
    let q₅ = put_both q₄ zero-le (text " open ") (decimal n.«open») p₅.put in
    let q₆ = put_both q₅ zero-le (text " blocks ") (decimal n.blocks) p₆.put in
    let q = put_then q₆ zero-le p₇.put in
    let same = sym (p₇.same ∙ p₆.same ∙ p₅.same ∙ p₄.same ∙ p₃.same ∙ p₂.same ∙ p₁.same) in
    printed_in (printed_done (le-leb _ _ c.if-out-lt-FIRST_LINE.false) q (omega (arith, q.end))) (search (rules, same))
