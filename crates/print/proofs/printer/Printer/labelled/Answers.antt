-- `printer::Printer::labelled`: a label, and its number.
use Rattle.std.proofs.Common.{arith}
use Rattle.print.proofs.DecimalLaws.{room_for}
use Rattle.print.proofs.WroteLaws.{wrote_then}
use Rattle.print.proofs.printer.Printer.labelled.Goals as goal

pub number-requires : goal.number-requires
number-requires c = room_for 19 _ _ _ (omega arith) (omega arith)

pub returns : goal.returns
returns c = wrote_then c.text.ensures c.number.ensures 29 (omega arith) (omega arith)
