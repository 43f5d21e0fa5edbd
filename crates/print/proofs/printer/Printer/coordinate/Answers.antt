-- `printer::Printer::coordinate`: a sign where there is one, and the number (CellLaws.antt).
use Rattle.std.proofs.Common.{◌-◌, arith}
use Rattle.print.proofs.CellLaws.{put_negative, put_positive}
use Rattle.print.proofs.DecimalLaws.{length_most, room_for}
use Rattle.print.proofs.WroteLaws.{wrote_as}
use Rattle.print.proofs.printer.Printer.coordinate.Goals as goal

pub number-requires : goal.number-requires
number-requires c = room_for 9 _ _ _ (omega arith) (omega arith)

pub number-requires-else-biased-lt-ORIGIN : goal.number-requires-else-biased-lt-ORIGIN
number-requires-else-biased-lt-ORIGIN c = room_for 9 _ _ _ (omega arith) (omega arith)

pub returns-then-biased-lt-ORIGIN : goal.returns-then-biased-lt-ORIGIN
returns-then-biased-lt-ORIGIN c =
    let u = c.args.biased in
    let l = length_most 9 (2147483648 - u) (omega arith) in
    let p = c.byte.ensures in
    let q = c.number.ensures in
    wrote_as p q _ 11 (put_negative u c.if-biased-lt-ORIGIN.true (omega arith) p.put q.put) (omega (arith, p.put.end, q.put.end))

pub returns-else-biased-lt-ORIGIN : goal.returns-else-biased-lt-ORIGIN
returns-else-biased-lt-ORIGIN c =
    let u = c.args.biased in
    let l = length_most 9 (u - 2147483648) (omega arith) in
    let p = c.number-else-biased-lt-ORIGIN.ensures in
    record { put = put_positive u c.if-biased-lt-ORIGIN.false p.put; few = omega (arith, p.put.end); long = p.long; same = p.same }
