use Rattle.std.proofs.Common.{ap, length, arith}
use Rattle.print.proofs.DecimalLaws.{decimal_one}
use Rattle.print.proofs.NumberLaws.{few_digits, numbering_done, numbering_more}
use Rattle.print.proofs.printer.Printer.number.Goals as goal

pub byte-requires : goal.byte-requires
byte-requires c =
    let e = ap length (decimal_one c.args.n c.if-n-lt10.true) in
    omega (arith, c.requires, e)

pub loop-i-preserved : goal.loop-i-preserved
loop-i-preserved c =
    let i = c.loop-i.invariant in
    (numbering_more i.0 _ (omega arith) (omega arith) (omega arith), i.1)

pub returns : goal.returns
returns c =
    let i = c.loop-i.invariant in
    let l = few_digits c.args.n (omega arith) in
    record { put = numbering_done i.0 (omega arith); few = omega arith; long = i.0.long; same = i.1 }

pub returns-then-n-lt10 : goal.returns-then-n-lt10
returns-then-n-lt10 c =
    let p = c.byte.ensures in
    record { put = rw (decimal_one c.args.n c.if-n-lt10.true) p.put; few = omega (arith, p.few); long = p.long; same = p.same }
