use Rattle.std.proofs.Common.{◌≡◌, true, ltb, sym, refl, ◌∙◌, lt-ltb}
use lib.Bits.{bit_or}
use Rattle.segment.specs.Many.{in_spans}
use Rattle.segment.proofs.SpanLaws.{or_sign}
use Rattle.segment.proofs.many.NearTest.passes.Goals as goal

-- `NearTest::passes`: a cell in both spans is answered by the near test. Assumes nothing.
pub returns-then-out-lt9223372036854775808 : goal.returns-then-out-lt9223372036854775808
returns-then-out-lt9223372036854775808 c =
    let a = c.args in
    let spans : ltb (bit_or c.outside.result c.outside-2.result) 9223372036854775808 ≡ in_spans a.self a.cell = or_sign c.outside.result c.outside-2.result ∙ rw (c.outside.ensures, c.outside-2.ensures) refl in
    let inside : in_spans a.self a.cell ≡ true = sym spans ∙ lt-ltb _ 9223372036854775808 c.if-out-lt9223372036854775808.true in
    c.passes_near.ensures ∙ rw inside refl
